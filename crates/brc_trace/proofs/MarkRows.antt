-- The rows of a mark word, mark by mark.
use Rattle.std.proofs.Common.{◌≡◌, ℕ, ◌+◌, ◌*◌, ◌∙◌, Bool, true, false, cond, List, [], ◌∷◌, ◌++◌, codes, map, refl, sym, ap, append_assoc, arith, ◌≢◌, Result, Ok, Err, OnOk}
use Rattle.std.specs.Prelude.{◌==◌, if◌then◌else◌, filter}
use Rattle.std.specs.List.{flat_map, range_with_len}
use Rattle.std.proofs.lemmas.List.{map-id, append-nil, map-append}
use Rattle.std.proofs.lemmas.List.Concat.{flat_map-append}
use Rattle.std.proofs.lemmas.List.Elements.{filter-append}
use Rattle.std.proofs.lemmas.List.FromFn.{map-range_with_len_more}
use Rattle.brc_word.specs.declared.values.TheConstants.{SET}
use Rattle.brc_word.specs.Words.{marks_of_word, mark_at}
use Rattle.brc_model.specs.declared.layout.Layout.{Layout}
use Rattle.brc_model.specs.Layout.{row_at}
use Rattle.std.proofs.lemmas.Bool.{eq-eqb, ne_eqb}
use Rattle.brc_trace.specs.WordTexts.{row_text, rows_set, rows_text, rows_or_none}

abbrev pub has_some : List ℕ → Bool
has_some [] = false
has_some (row ∷ rest) = true

-- the row behind what separates it from the rows before it
abbrev pub behind : Bool → ℕ → List ℕ
behind some row = (if some then codes ", " else []) ++ row_text row

-- One row more has its text behind the text of the others.
one_more : (rows : List ℕ) (row : ℕ) → rows_text (rows ++ row ∷ []) ≡ rows_text rows ++ behind (has_some rows) row
one_more [] row = append-nil (row_text row)
one_more (first ∷ rest) row =
    let each : ℕ → List ℕ = λ next. codes ", " ++ row_text next in
    ap (λ (l : List ℕ). row_text first ++ l)
    (flat_map-append each rest (row ∷ [])
    ∙ ap (λ (l : List ℕ). flat_map each rest ++ l) (append-nil (each row)))
    ∙ sym (append_assoc (row_text first) (flat_map each rest) (each row))

more_has_some : (rows : List ℕ) (row : ℕ) → has_some (rows ++ row ∷ []) ≡ true
more_has_some [] row = refl
more_has_some (first ∷ rest) row = refl

shown : (rows : List ℕ) → has_some rows ≡ true → rows_text rows ≡ rows_or_none rows
shown [] some = absurd cc
shown (first ∷ rest) some = refl

no_rows : (rows : List ℕ) → has_some rows ≡ false → rows ≡ []
no_rows [] none = refl
no_rows (first ∷ rest) none = absurd cc

module _ (layout : Layout) (t w word : ℕ) where
  more_bits : (n : ℕ) → range_with_len 0 (n + 1) ≡ range_with_len 0 n ++ n ∷ []
  more_bits n =
      let each : ℕ → ℕ = λ x. x in
      sym (map-id (range_with_len 0 (n + 1))) ∙ map-range_with_len_more each 0 n n (omega arith)
      ∙ ap (λ (l : List ℕ). l ++ n ∷ []) (map-id (range_with_len 0 n))

  pub first_rows : rows_set layout t w word 0 ≡ []
  unfolding rows_set
  first_rows = refl

  rows_more : (n : ℕ) → rows_set layout t w word (n + 1)
      ≡ rows_set layout t w word n
      ++ map (λ bit. row_at layout t (marks_of_word * w + bit)) (filter (λ bit. mark_at word bit == SET) (n ∷ []))
  unfolding rows_set
  rows_more n =
      let each : ℕ → ℕ = λ bit. row_at layout t (marks_of_word * w + bit) in
      let test : ℕ → Bool = λ bit. mark_at word bit == SET in
      ap (λ (l : List ℕ). map each (filter test l)) (more_bits n)
      ∙ ap (map each) (filter-append test (range_with_len 0 n) (n ∷ []))
      ∙ map-append each (filter test (range_with_len 0 n)) (filter test (n ∷ []))

  -- A set mark adds its row to those of the marks before it.
  row_more : (n : ℕ) → mark_at word n ≡ SET → rows_set layout t w word (n + 1)
      ≡ rows_set layout t w word n ++ row_at layout t (marks_of_word * w + n) ∷ []
  row_more n set =
      let each : ℕ → ℕ = λ bit. row_at layout t (marks_of_word * w + bit) in
      rows_more n
      ∙ ap (λ (b : Bool). rows_set layout t w word n ++ map each (cond b (n ∷ []) []))
      (eq-eqb (mark_at word n) SET set)

  -- A clear mark adds no row.
  pub row_same : (n : ℕ) → mark_at word n ≢ SET
      → rows_set layout t w word (n + 1) ≡ rows_set layout t w word n
  row_same n clear =
      let each : ℕ → ℕ = λ bit. row_at layout t (marks_of_word * w + bit) in
      rows_more n
      ∙ ap (λ (b : Bool). rows_set layout t w word n ++ map each (cond b (n ∷ []) []))
      (ne_eqb (mark_at word n) SET clear)
      ∙ append-nil (rows_set layout t w word n)

  -- The text of the marks before a set mark, and that mark's text behind it, are the text of the marks so far.
  pub text_more : (n row : ℕ) (some : Bool) (old line new : List ℕ) → mark_at word n ≡ SET
      → row ≡ row_at layout t (marks_of_word * w + n)
      → line ≡ old ++ rows_text (rows_set layout t w word n) → some ≡ has_some (rows_set layout t w word n)
      → new ≡ line ++ behind some row → new ≡ old ++ rows_text (rows_set layout t w word (n + 1))
  text_more n row some old line new set is so_far before added =
      let rows = rows_set layout t w word n in
      added ∙ ap (λ (l : List ℕ). l ++ behind some row) so_far
      ∙ append_assoc old (rows_text rows) (behind some row)
      ∙ ap (λ (b : Bool). old ++ (rows_text rows ++ behind b row)) before
      ∙ ap (λ (x : ℕ). old ++ (rows_text rows ++ behind (has_some rows) x)) is
      ∙ ap (λ (l : List ℕ). old ++ l) (sym (one_more rows (row_at layout t (marks_of_word * w + n))))
      ∙ ap (λ (l : List ℕ). old ++ rows_text l) (sym (row_more n set))

  -- Behind a set mark there is a row.
  pub some_more : (n : ℕ) → mark_at word n ≡ SET → true ≡ has_some (rows_set layout t w word (n + 1))
  some_more n set =
      sym (ap has_some (row_more n set)
      ∙ more_has_some (rows_set layout t w word n) (row_at layout t (marks_of_word * w + n)))

  -- Once all marks are seen, the text of their rows is whole if there is one,
  pub whole : (n m : ℕ) (some : Bool) (old line : List ℕ) → n ≡ m → some ≡ true
      → line ≡ old ++ rows_text (rows_set layout t w word n) → some ≡ has_some (rows_set layout t w word n)
      → line ≡ old ++ rows_or_none (rows_set layout t w word m)
  whole n m some old line all one so_far before =
      so_far
      ∙ ap (λ (l : List ℕ). old ++ l) (shown (rows_set layout t w word n) (sym before ∙ one))
      ∙ ap (λ (i : ℕ). old ++ rows_or_none (rows_set layout t w word i)) all

  -- and else it is the word for none.
  pub none : {X E : Type 0} (r : Result X E) (n m : ℕ) (some : Bool) (old line new : List ℕ) → n ≡ m → some ≡ false
      → line ≡ old ++ rows_text (rows_set layout t w word n) → some ≡ has_some (rows_set layout t w word n)
      → OnOk r (new ≡ line ++ codes "none") → OnOk r (new ≡ old ++ rows_or_none (rows_set layout t w word m))
  none (Err e) n m some old line new all nothing so_far before added = tt
  none (Ok x) n m some old line new all nothing so_far before added =
      let empty = no_rows (rows_set layout t w word n) (sym before ∙ nothing) in
      added
      ∙ ap (λ (l : List ℕ). l ++ codes "none") (so_far ∙ ap (λ (l : List ℕ). old ++ rows_text l) empty ∙ append-nil old)
      ∙ ap (λ (l : List ℕ). old ++ rows_or_none l) (sym empty)
      ∙ ap (λ (i : ℕ). old ++ rows_or_none (rows_set layout t w word i)) all
