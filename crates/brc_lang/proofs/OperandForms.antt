-- The operands of an instruction: words that are read as operands are their spelling.
use Rattle.std.proofs.Common.{◌≡◌, ◌≢◌, ℕ, ◌<◌, ◌≤◌, ◌^◌, true, List, [], ◌∷◌, Result, Ok, Err}
use Rattle.std.proofs.Common.{refl, ap, subst, arith}
use Rattle.std.specs.Prelude.{codes}
use Rattle.std.specs.Fmt.{decimal}
use Rattle.std.specs.List.{AllByRecursion}
use Rattle.std.specs.Str.{bytes_eq}
use Rattle.brc_lang.specs.declared.kind.Kind.{Kind}
use Rattle.brc_lang.specs.declared.kind.Kind.TheVariants as kinds
use Rattle.brc_lang.specs.declared.fault.FaultCode.{FaultCode}
use Rattle.brc_lang.specs.declared.fault.FaultCode.TheVariants.{UnknownWord}
use Rattle.brc_lang.specs.Grammar.{variable, target, kind_name}
use Rattle.brc_lang.specs.InstructionWords.{number_in, variable_in, target_in, number_between, one_variable_in, two_variables_in}
use Rattle.brc_lang.specs.InstructionWords.{one_target_in, again_in, birth_in, taking_in, store_in, kind_in, as_in}
use Rattle.brc_lang.specs.Limits.{variable_count, target_count, index_count, last_index, value_limit}
use Rattle.brc_lang.specs.Limits.{last_peer, read_limit, turn_limit}
use Rattle.brc_lang.specs.RoundTrips.{IsPlain}
use Rattle.brc_lang.proofs.Tests.{either_way, same_text}
use Rattle.brc_lang.proofs.Spelling.{bind_ok, ok_is, number_plain, between_spelled, between_again, variable_spelled}
use Rattle.brc_lang.proofs.Spelling.{variable_again, variable_plain, target_spelled, target_again, target_plain}
use Rattle.brc_lang.proofs.Spelling.{index_spelled, index_again, index_plain}
use Rattle.brc_lang.proofs.KindWords.{kind_spelled, kind_again, kind_plain}

pub both_same : (v w : List ℕ) (vs ws : List (List ℕ)) → v ≡ w → vs ≡ ws → (v ∷ vs) ≡ (w ∷ ws)
both_same v w vs ws e f = cc

-- the last two words of an instruction that has a fault exit
pub else_spelled : (w d : List ℕ) (n : ℕ) → bytes_eq w (codes "else") ≡ true → d ≡ target n
    → (w ∷ d ∷ []) ≡ codes "else" ∷ target n ∷ []
else_spelled w d n same e =
    both_same w (codes "else") (d ∷ []) (target n ∷ []) (same_text w (codes "else") same)
    (ap (λ (x : List ℕ). x ∷ []) e)

-- ---- forms of operands

-- these words are the operands' spelling, and they may be spelled
abbrev pub IsSpelled : {V : Type 0} → (V → List (List ℕ)) → (V → Type 0) → List (List ℕ) → V → Type 0
IsSpelled spell Fits ws v = (ws ≡ spell v) × Fits v

-- how the operands of an instruction are read and spelled, which ones may be spelled, and that reading undoes spelling
pub record Form (V : Type 0) : Type 1 where
  pub read : List (List ℕ) → Result V FaultCode
  pub spell : V → List (List ℕ)
  pub Fits : V → Type 0
  pub spelled : (ws : List (List ℕ)) (v : V) → read ws ≡ Ok v → IsSpelled spell Fits ws v
  pub again : (v : V) → Fits v → read (spell v) ≡ Ok v
  pub plain : (v : V) → Fits v → AllByRecursion IsPlain (spell v)

-- ---- a variable or a target

pub one_variable_spelled : (ws : List (List ℕ)) (n : ℕ) → one_variable_in ws ≡ Ok n
    → (ws ≡ variable n ∷ []) × (n < variable_count)
one_variable_spelled [] n e = absurd cc
one_variable_spelled (a ∷ []) n e =
    let v = variable_spelled a n e in
    (ap (λ (x : List ℕ). x ∷ []) v.0, v.1)
one_variable_spelled (a ∷ b ∷ ws) n e = absurd cc

abbrev pub one_variable_form : Form ℕ
one_variable_form = record {
  read = one_variable_in;
  spell = λ n. variable n ∷ [];
  Fits = λ n. n < variable_count;
  spelled = one_variable_spelled;
  again = λ n fits. variable_again n fits;
  plain = λ n fits. (variable_plain n fits, tt);
}

pub one_target_spelled : (ws : List (List ℕ)) (n : ℕ) → one_target_in ws ≡ Ok n
    → (ws ≡ target n ∷ []) × (n < target_count)
one_target_spelled [] n e = absurd cc
one_target_spelled (a ∷ []) n e =
    let t = target_spelled a n e in
    (ap (λ (x : List ℕ). x ∷ []) t.0, t.1)
one_target_spelled (a ∷ b ∷ ws) n e = absurd cc

abbrev pub one_target_form : Form ℕ
one_target_form = record {
  read = one_target_in;
  spell = λ n. target n ∷ [];
  Fits = λ n. n < target_count;
  spelled = one_target_spelled;
  again = λ n fits. target_again n fits;
  plain = λ n fits. (target_plain n fits, tt);
}

-- ---- two variables

abbrev pub two_variables : ℕ × ℕ → List (List ℕ)
two_variables v = variable v.0 ∷ variable v.1 ∷ []

abbrev pub AreVariables : ℕ × ℕ → Type 0
AreVariables v = (v.0 < variable_count) × (v.1 < variable_count)

pub two_variables_spelled : (ws : List (List ℕ)) (v : ℕ × ℕ) → two_variables_in ws ≡ Ok v
    → IsSpelled two_variables AreVariables ws v
two_variables_spelled [] v e = absurd cc
two_variables_spelled (a ∷ []) v e = absurd cc
two_variables_spelled (a ∷ b ∷ []) v e =
    let to = bind_ok (variable_in a) _ v e in
    let from = bind_ok (variable_in b) _ v to.2 in
    let p = variable_spelled a to.0 to.1 in
    let q = variable_spelled b from.0 from.1 in
    let same : (a ∷ b ∷ []) ≡ variable to.0 ∷ variable from.0 ∷ [] =
    both_same a (variable to.0) (b ∷ []) (variable from.0 ∷ []) p.0 (ap (λ (x : List ℕ). x ∷ []) q.0) in
    subst (IsSpelled two_variables AreVariables (a ∷ b ∷ [])) (ok_is (to.0, from.0) v from.2) (same, (p.1, q.1))
two_variables_spelled (a ∷ b ∷ c ∷ ws) v e = absurd cc

abbrev pub two_variables_form : Form (ℕ × ℕ)
two_variables_form = record {
  read = two_variables_in;
  spell = two_variables;
  Fits = AreVariables;
  spelled = two_variables_spelled;
  again = λ v fits. rw (variable_again v.0 fits.0, variable_again v.1 fits.1) refl;
  plain = λ v fits. (variable_plain v.0 fits.0, (variable_plain v.1 fits.1, tt));
}

-- ---- a target, and how often `again` goes back to it

abbrev pub again_words : ℕ × ℕ → List (List ℕ)
again_words v = target v.0 ∷ decimal v.1 ∷ []

abbrev pub AreAgain : ℕ × ℕ → Type 0
AreAgain v = (v.0 < target_count) × (0 < v.1) × (v.1 ≤ turn_limit)

pub again_spelled : (ws : List (List ℕ)) (v : ℕ × ℕ) → again_in ws ≡ Ok v → IsSpelled again_words AreAgain ws v
again_spelled [] v e = absurd cc
again_spelled (a ∷ []) v e = absurd cc
again_spelled (a ∷ b ∷ []) v e =
    let to = bind_ok (target_in a) _ v e in
    let times = bind_ok (number_between 1 turn_limit b) _ v to.2 in
    let p = target_spelled a to.0 to.1 in
    let q = between_spelled 1 turn_limit b times.0 (omega arith) times.1 in
    subst (IsSpelled again_words AreAgain (a ∷ b ∷ [])) (ok_is (to.0, times.0) v times.2)
    (both_same a (target to.0) (b ∷ []) _ p.0 (ap (λ (x : List ℕ). x ∷ []) q.0), (p.1, omega (arith, q.1), q.2))
again_spelled (a ∷ b ∷ c ∷ ws) v e = absurd cc

abbrev pub again_form : Form (ℕ × ℕ)
again_form = record {
  read = again_in;
  spell = again_words;
  Fits = AreAgain;
  spelled = again_spelled;
  again =
      λ v fits. rw (target_again v.0 fits.0, between_again 1 turn_limit v.1 (omega (arith, fits.1)) fits.2 (omega arith))
      refl;
  plain = λ v fits. (target_plain v.0 fits.0, (number_plain v.1 (omega (arith, fits.2)), tt));
}

-- ---- a variable, a number from low to high, `else` and a target

abbrev pub birth_words : ℕ × ℕ × ℕ → List (List ℕ)
birth_words v = variable v.0 ∷ decimal v.1 ∷ codes "else" ∷ target v.2 ∷ []

abbrev pub AreBirth : ℕ → ℕ → ℕ × ℕ × ℕ → Type 0
AreBirth low high v = (v.0 < variable_count) × (low ≤ v.1) × (v.1 ≤ high) × (v.2 < target_count)

pub birth_spelled : (low high : ℕ) → high < 2 ^ 64 → (ws : List (List ℕ)) (v : ℕ × ℕ × ℕ) → birth_in low high ws ≡ Ok v
    → IsSpelled birth_words (AreBirth low high) ws v
birth_spelled low high small [] v e = absurd cc
birth_spelled low high small (a ∷ []) v e = absurd cc
birth_spelled low high small (a ∷ b ∷ []) v e = absurd cc
birth_spelled low high small (a ∷ b ∷ c ∷ []) v e = absurd cc
birth_spelled low high small (a ∷ b ∷ c ∷ d ∷ []) v e =
    either_way (bytes_eq c (codes "else")) _ (Err UnknownWord) (Ok v) e
    (λ same read.
    let to = bind_ok (variable_in a) _ v read in
    let number = bind_ok (number_between low high b) _ v to.2 in
    let otherwise = bind_ok (target_in d) _ v number.2 in
    let p = variable_spelled a to.0 to.1 in
    let q = between_spelled low high b number.0 small number.1 in
    let r = target_spelled d otherwise.0 otherwise.1 in
    let last = else_spelled c d otherwise.0 same r.0 in
    let more : (b ∷ c ∷ d ∷ []) ≡ decimal number.0 ∷ codes "else" ∷ target otherwise.0 ∷ [] =
    both_same b (decimal number.0) (c ∷ d ∷ []) _ q.0 last in
    subst (IsSpelled birth_words (AreBirth low high) (a ∷ b ∷ c ∷ d ∷ []))
    (ok_is (to.0, number.0, otherwise.0) v otherwise.2)
    (both_same a (variable to.0) (b ∷ c ∷ d ∷ []) _ p.0 more, (p.1, q.1, q.2, r.1)))
    (λ never. absurd cc)
birth_spelled low high small (a ∷ b ∷ c ∷ d ∷ f ∷ ws) v e = absurd cc

abbrev pub birth_form : (low high : ℕ) → high < 2 ^ 64 → Form (ℕ × ℕ × ℕ)
birth_form low high small = record {
  read = birth_in low high;
  spell = birth_words;
  Fits = AreBirth low high;
  spelled = birth_spelled low high small;
  again =
      λ b fits. rw (variable_again b.0 fits.0, between_again low high b.1 fits.1 fits.2 small, target_again b.2 fits.3)
      refl;
  plain =
      λ b fits. (
        variable_plain b.0 fits.0,
        (number_plain b.1 (omega (arith, fits.2, small)), ((refl, refl), (target_plain b.2 fits.3, tt))),
      );
}

abbrev pub num_form : Form (ℕ × ℕ × ℕ)
num_form = birth_form 0 value_limit (omega arith)

abbrev pub connect_form : Form (ℕ × ℕ × ℕ)
connect_form = birth_form 0 last_peer (omega arith)

-- ---- a variable, an object, a number from low to high, `else` and a target

abbrev pub taking_words : ℕ × ℕ × ℕ × ℕ → List (List ℕ)
taking_words v = variable v.0 ∷ variable v.1 ∷ decimal v.2 ∷ codes "else" ∷ target v.3 ∷ []

abbrev pub AreTaking : ℕ → ℕ → ℕ × ℕ × ℕ × ℕ → Type 0
AreTaking low high v =
    (v.0 < variable_count) × (v.1 < variable_count) × (low ≤ v.2) × (v.2 ≤ high) × (v.3 < target_count)

pub taking_spelled : (low high : ℕ) → high < 2 ^ 64 → (ws : List (List ℕ)) (v : ℕ × ℕ × ℕ × ℕ)
    → taking_in low high ws ≡ Ok v → IsSpelled taking_words (AreTaking low high) ws v
taking_spelled low high small [] v e = absurd cc
taking_spelled low high small (a ∷ []) v e = absurd cc
taking_spelled low high small (a ∷ b ∷ []) v e = absurd cc
taking_spelled low high small (a ∷ b ∷ c ∷ []) v e = absurd cc
taking_spelled low high small (a ∷ b ∷ c ∷ d ∷ []) v e = absurd cc
taking_spelled low high small (a ∷ b ∷ c ∷ d ∷ f ∷ []) v e =
    either_way (bytes_eq d (codes "else")) _ (Err UnknownWord) (Ok v) e
    (λ same read.
    let to = bind_ok (variable_in a) _ v read in
    let object = bind_ok (variable_in b) _ v to.2 in
    let number = bind_ok (number_between low high c) _ v object.2 in
    let otherwise = bind_ok (target_in f) _ v number.2 in
    let p = variable_spelled a to.0 to.1 in
    let q = variable_spelled b object.0 object.1 in
    let r = between_spelled low high c number.0 small number.1 in
    let s = target_spelled f otherwise.0 otherwise.1 in
    let last = else_spelled d f otherwise.0 same s.0 in
    let more : (c ∷ d ∷ f ∷ []) ≡ decimal number.0 ∷ codes "else" ∷ target otherwise.0 ∷ [] =
    both_same c (decimal number.0) (d ∷ f ∷ []) _ r.0 last in
    let most : (b ∷ c ∷ d ∷ f ∷ [])
    ≡ variable object.0 ∷ decimal number.0 ∷ codes "else" ∷ target otherwise.0 ∷ [] =
    both_same b (variable object.0) (c ∷ d ∷ f ∷ []) _ q.0 more in
    subst (IsSpelled taking_words (AreTaking low high) (a ∷ b ∷ c ∷ d ∷ f ∷ []))
    (ok_is (to.0, object.0, number.0, otherwise.0) v otherwise.2)
    (both_same a (variable to.0) (b ∷ c ∷ d ∷ f ∷ []) _ p.0 most, (p.1, q.1, r.1, r.2, s.1)))
    (λ never. absurd cc)
taking_spelled low high small (a ∷ b ∷ c ∷ d ∷ f ∷ g ∷ ws) v e = absurd cc

abbrev pub taking_form : (low high : ℕ) → high < 2 ^ 64 → Form (ℕ × ℕ × ℕ × ℕ)
taking_form low high small = record {
  read = taking_in low high;
  spell = taking_words;
  Fits = AreTaking low high;
  spelled = taking_spelled low high small;
  again =
      λ v fits. rw (
        variable_again v.0 fits.0,
        variable_again v.1 fits.1,
        between_again low high v.2 fits.2 fits.3 small,
        target_again v.3 fits.4,
      ) refl;
  plain =
      λ v fits. (
        variable_plain v.0 fits.0,
        (
          variable_plain v.1 fits.1,
          (number_plain v.2 (omega (arith, fits.3, small)), ((refl, refl), (target_plain v.3 fits.4, tt))),
        ),
      );
}

abbrev pub item_form : Form (ℕ × ℕ × ℕ × ℕ)
item_form = taking_form 0 last_index (omega arith)

abbrev pub read_form : Form (ℕ × ℕ × ℕ × ℕ)
read_form = taking_form 1 read_limit (omega arith)

-- ---- a list and an index, a variable, `else` and a target

abbrev pub store_words : ℕ × ℕ × ℕ × ℕ → List (List ℕ)
store_words v = variable v.0 ∷ decimal v.1 ∷ variable v.2 ∷ codes "else" ∷ target v.3 ∷ []

abbrev pub AreStore : ℕ × ℕ × ℕ × ℕ → Type 0
AreStore v = (v.0 < variable_count) × (v.1 < index_count) × (v.2 < variable_count) × (v.3 < target_count)

pub store_spelled : (ws : List (List ℕ)) (v : ℕ × ℕ × ℕ × ℕ) → store_in ws ≡ Ok v
    → IsSpelled store_words AreStore ws v
store_spelled [] v e = absurd cc
store_spelled (a ∷ []) v e = absurd cc
store_spelled (a ∷ b ∷ []) v e = absurd cc
store_spelled (a ∷ b ∷ c ∷ []) v e = absurd cc
store_spelled (a ∷ b ∷ c ∷ d ∷ []) v e = absurd cc
store_spelled (a ∷ b ∷ c ∷ d ∷ f ∷ []) v e =
    either_way (bytes_eq d (codes "else")) _ (Err UnknownWord) (Ok v) e
    (λ same read.
    let list = bind_ok (variable_in a) _ v read in
    let index = bind_ok (number_in last_index b) _ v list.2 in
    let from = bind_ok (variable_in c) _ v index.2 in
    let otherwise = bind_ok (target_in f) _ v from.2 in
    let p = variable_spelled a list.0 list.1 in
    let q = index_spelled b index.0 index.1 in
    let r = variable_spelled c from.0 from.1 in
    let s = target_spelled f otherwise.0 otherwise.1 in
    let last = else_spelled d f otherwise.0 same s.0 in
    let more : (c ∷ d ∷ f ∷ []) ≡ variable from.0 ∷ codes "else" ∷ target otherwise.0 ∷ [] =
    both_same c (variable from.0) (d ∷ f ∷ []) _ r.0 last in
    let most : (b ∷ c ∷ d ∷ f ∷ []) ≡ decimal index.0 ∷ variable from.0 ∷ codes "else" ∷ target otherwise.0 ∷ [] =
    both_same b (decimal index.0) (c ∷ d ∷ f ∷ []) _ q.0 more in
    subst (IsSpelled store_words AreStore (a ∷ b ∷ c ∷ d ∷ f ∷ []))
    (ok_is (list.0, index.0, from.0, otherwise.0) v otherwise.2)
    (both_same a (variable list.0) (b ∷ c ∷ d ∷ f ∷ []) _ p.0 most, (p.1, q.1, r.1, s.1)))
    (λ never. absurd cc)
store_spelled (a ∷ b ∷ c ∷ d ∷ f ∷ g ∷ ws) v e = absurd cc

abbrev pub store_form : Form (ℕ × ℕ × ℕ × ℕ)
store_form = record {
  read = store_in;
  spell = store_words;
  Fits = AreStore;
  spelled = store_spelled;
  again =
      λ v fits. rw (
        variable_again v.0 fits.0,
        index_again v.1 fits.1,
        variable_again v.2 fits.2,
        target_again v.3 fits.3,
      ) refl;
  plain =
      λ v fits. (
        variable_plain v.0 fits.0,
        (
          index_plain v.1 fits.1,
          (variable_plain v.2 fits.2, ((refl, refl), (target_plain v.3 fits.3, tt))),
        ),
      );
}

-- ---- a variable, a kind, `else` and a target

abbrev pub as_words : ℕ × Kind × ℕ → List (List ℕ)
as_words v = variable v.0 ∷ kind_name v.1 ∷ codes "else" ∷ target v.2 ∷ []

abbrev pub AreAsked : ℕ × Kind × ℕ → Type 0
AreAsked v = (v.0 < variable_count) × (v.1 ≢ kinds.Any) × (v.2 < target_count)

pub as_spelled : (ws : List (List ℕ)) (v : ℕ × Kind × ℕ) → as_in ws ≡ Ok v → IsSpelled as_words AreAsked ws v
as_spelled [] v e = absurd cc
as_spelled (a ∷ []) v e = absurd cc
as_spelled (a ∷ b ∷ []) v e = absurd cc
as_spelled (a ∷ b ∷ c ∷ []) v e = absurd cc
as_spelled (a ∷ b ∷ c ∷ d ∷ []) v e =
    either_way (bytes_eq c (codes "else")) _ (Err UnknownWord) (Ok v) e
    (λ same read.
    let from = bind_ok (variable_in a) _ v read in
    let kind = bind_ok (kind_in b) _ v from.2 in
    let otherwise = bind_ok (target_in d) _ v kind.2 in
    let p = variable_spelled a from.0 from.1 in
    let q = kind_spelled b kind.0 kind.1 in
    let r = target_spelled d otherwise.0 otherwise.1 in
    let last = else_spelled c d otherwise.0 same r.0 in
    let more : (b ∷ c ∷ d ∷ []) ≡ kind_name kind.0 ∷ codes "else" ∷ target otherwise.0 ∷ [] =
    both_same b (kind_name kind.0) (c ∷ d ∷ []) _ q.0 last in
    subst (IsSpelled as_words AreAsked (a ∷ b ∷ c ∷ d ∷ []))
    (ok_is (from.0, kind.0, otherwise.0) v otherwise.2)
    (both_same a (variable from.0) (b ∷ c ∷ d ∷ []) _ p.0 more, (p.1, q.1, r.1)))
    (λ never. absurd cc)
as_spelled (a ∷ b ∷ c ∷ d ∷ f ∷ ws) v e = absurd cc

abbrev pub as_form : Form (ℕ × Kind × ℕ)
as_form = record {
  read = as_in;
  spell = as_words;
  Fits = AreAsked;
  spelled = as_spelled;
  again = λ v fits. rw (variable_again v.0 fits.0, kind_again v.1 fits.1, target_again v.2 fits.2) refl;
  plain =
      λ v fits. (
        variable_plain v.0 fits.0,
        (kind_plain v.1, ((refl, refl), (target_plain v.2 fits.2, tt))),
      );
}
