-- What comes next for a hand that takes a mark of its own block.
use Rattle.std.proofs.Common.{◌≡◌, ◌≢◌, ℕ, suc, zero, ◌+◌, ◌-◌, ◌*◌, ◌<◌, Bool, true, false, List, [], ◌∷◌, ◌++◌, refl, sym, ap, ◌∙◌, subst, arith}
use Rattle.std.specs.Prelude.{◌==◌, if◌then◌else◌}
use Rattle.brc_host.specs.HostCalls.{HostCall}
use Rattle.brc_model.specs.declared.duty.Reason.TheVariants.{Handed}
use Rattle.brc_model.specs.declared.duty.Duty.{Duty}
use Rattle.brc_model.specs.declared.duty.Duty.TheVariants.{MergeSwap, Settle, Scan, TakeFound, Finish, ClaimMark, MarksLoad}
use Rattle.brc_model.specs.declared.layout.Layout.{Layout}
use Rattle.brc_model.specs.Layout.{row_at}
use Rattle.brc_model.specs.Duties.{found_row, ready, claimed}
use Rattle.brc_table.specs.declared.view.View.{View}
use Rattle.brc_table.specs.Views.{view_by, view_after, claiming, loading_marks}
use Rattle.brc_table.specs.declared.work.Work.{Work}
use Rattle.brc_table.specs.declared.work.Work.TheVariants as work
use Rattle.brc_table.specs.Turns.{turned_to}
use Rattle.brc_heap.specs.Steps.{Keeps}
use Rattle.brc_free.specs.Works.{HasWorked, claimed_left}
use Rattle.brc_queue.specs.Scans.{words_used, scans_from, takes_from}
use Rattle.brc_heap.specs.Marks.{mark_found}
use Rattle.brc_word.specs.Words.{marks_of_word, unmarked_word, lowest_mark, first_marks}
use Rattle.brc_heap.proofs.Keeping.{keeps_then, keeps_beside, did_keeps}
use Rattle.brc_heap.proofs.Stepping.{plain_first}
use Rattle.brc_free.proofs.Working.{worked_first, worked_on, worked_then}

-- ---- a claim

-- The mark wasn't set, and nothing is left to do.
pub claim_none : (v w : View) (x found : ℕ) → v.actor.head ≡ 0 → (mark_found v x found == 1) ≡ false → w
    ≡ view_after (claiming v x) found
    → w.actor.agenda ≡ ready w.actor.head []
claim_none v w x found empty none is =
    ap (λ (z : View). z.actor.agenda) is
    ∙ (ap (λ (b : Bool). ready v.actor.head (((if b then MergeSwap x Handed ∷ [] else []) ++ Settle ∷ []) ++ [])) none
    ∙ ap (λ (head : ℕ). ready head (Settle ∷ [])) empty)

-- What the step of a claim keeps.
pub claim_keeps : (v w : View) (x found : ℕ) → w ≡ view_after (claiming v x) found → Keeps v w
claim_keeps v w x found is =
    subst (Keeps v) (sym is)
    (keeps_then (keeps_beside v (ClaimMark x ∷ []))
    (did_keeps (claiming v x) (ClaimMark x) [] found refl refl
    (record { locked = refl; cells = λ y j e. refl; gates = λ y e. refl })))

-- ---- a load of a mark word

-- What the load of a mark word keeps.
pub load_keeps : (v w : View) (word found : ℕ) → w ≡ view_after (loading_marks v word) found → Keeps v w
load_keeps v w word found is =
    subst (Keeps v) (sym is)
    (keeps_then (keeps_beside v (MarksLoad word ∷ []))
    (did_keeps (loading_marks v word) (MarksLoad word) [] found refl refl
    (record { locked = refl; cells = λ y j e. refl; gates = λ y e. refl })))

-- Nothing is left to do then.
pub load_idle : (v w : View) (word found : ℕ) → v.actor.head ≡ 0 → w ≡ view_after (loading_marks v word) found
    → w.actor.agenda ≡ []
load_idle v w word found empty is =
    ap (λ (z : View). z.actor.agenda) is ∙ ap (λ (head : ℕ). ready head []) empty

-- A hand that turns to other work stays in its layout.
pub turned_layout : (work : Work) (v : View) (x : ℕ) → (turned_to work v x).layout ≡ v.layout
turned_layout work.Next v x = refl
turned_layout work.Aside v x = refl

-- ---- rows of a block

-- The rows of a worker's block follow one another.
rows_follow : (layout : Layout) (t i : ℕ) → t ≢ 0 → row_at layout t i ≡ row_at layout t 0 + i
rows_follow layout zero i worker = absurd (worker refl)
rows_follow layout (suc t) i worker = omega (arith)

pub row_of_block : (v : View) (i first : ℕ) → v.thread ≢ 0 → first ≡ row_at v.layout v.thread 0
    → row_at v.layout v.thread i ≡ first + i
row_of_block v i first worker is =
    rows_follow v.layout v.thread i worker ∙ ap (λ (n : ℕ). n + i) (sym is)

-- ---- a scan

-- A scan of rows needs a step, and so does taking a mark.
scan_first : (head w n : ℕ) (rest : List Duty) → 0 < n → ready head (Scan w n ∷ rest) ≡ Scan w n ∷ rest
scan_first head w zero rest some = absurd (omega (arith, some))
scan_first zero w (suc n) rest some = refl
scan_first (suc head) w (suc n) rest some = refl

take_first : (head w n : ℕ) (rest : List Duty) → 0 < n → ready head (TakeFound w n ∷ rest) ≡ TakeFound w n ∷ rest
take_first head w zero rest some = absurd (omega (arith, some))
take_first zero w (suc n) rest some = refl
take_first (suc head) w (suc n) rest some = refl

-- With no rows or marks left, neither does.
none_scanned : (head w : ℕ) (rest : List Duty) → ready head (Scan w 0 ∷ rest) ≡ ready head rest
none_scanned zero w rest = refl
none_scanned (suc head) w rest = refl

none_taken : (head w : ℕ) (rest : List Duty) → ready head (TakeFound w 0 ∷ rest) ≡ ready head rest
none_taken zero w rest = refl
none_taken (suc head) w rest = refl

-- The mark word is loaded, and the marks of used rows that were found there are taken next.
pub scanned : (v w : View) (used word found : ℕ) → v.actor.agenda ≡ scans_from used word → marks_of_word * word < used
    → w ≡ view_after v found
    → HasWorked v [] (takes_from used word (first_marks found (used - marks_of_word * word))) w
scanned v w used word found next more is =
    let n = used - marks_of_word * word in
    let first = scan_first v.actor.head word n (Finish ∷ []) (omega (arith, more)) in
    worked_on v v w [] (Scan word n) (Finish ∷ []) (takes_from used word (first_marks found n)) found
    (worked_first v (scans_from used word) (next ∙ sym first)) first refl refl is refl refl
    (record { locked = refl; cells = λ y j e. refl; gates = λ y e. refl })
    (ap (λ (k : ℕ). TakeFound word (first_marks found n) ∷ Scan (word + 1) k ∷ Finish ∷ []) (omega (arith)))

-- A load leaves the chain as it is, and so does taking a mark.
pub scan_head : (v w : View) (used word found : ℕ) → v.actor.agenda ≡ scans_from used word → w ≡ view_after v found
    → v.actor.head ≡ 0 → w.actor.head ≡ 0
scan_head v w used word found next is empty =
    ap (λ (z : View). z.actor.head) (is ∙ ap (λ (ds : List Duty). view_by v ds found) next) ∙ empty

pub take_head : (v w : View) (used word marks found : ℕ) → v.actor.agenda ≡ takes_from used word marks
    → w ≡ view_after v found → v.actor.head ≡ 0 → w.actor.head ≡ 0
take_head v w used word marks found next is empty =
    ap (λ (z : View). z.actor.head) (is ∙ ap (λ (ds : List Duty). view_by v ds found) next) ∙ empty

-- What is left of the marks in a mark word once the lowest one is taken.
abbrev later_marks : ℕ → ℕ → ℕ → List Duty
later_marks used word marks = takes_from used word (unmarked_word marks (lowest_mark marks))

took : (v w : View) (used word marks found : ℕ) → v.actor.agenda ≡ takes_from used word marks → 0 < marks
    → w ≡ view_after v found
    → HasWorked v [] (claimed (found_row v.layout v.thread word marks)
    (mark_found v (found_row v.layout v.thread word marks) found) ++ Settle ∷ later_marks used word marks) w
took v w used word marks found next some is =
    let x = found_row v.layout v.thread word marks in
    let rest = scans_from used (word + 1) in
    let first = take_first v.actor.head word marks rest some in
    worked_on v v w [] (TakeFound word marks) rest
    (claimed x (mark_found v x found) ++ Settle ∷ later_marks used word marks) found
    (worked_first v (takes_from used word marks) (next ∙ sym first)) first refl refl is refl refl
    (record { locked = refl; cells = λ y j e. refl; gates = λ y e. refl })
    (behind_claim x (mark_found v x found == 1)) where
      behind_claim : (x : ℕ) (b : Bool)
          → ((if b then MergeSwap x Handed ∷ [] else [])
          ++ Settle ∷ TakeFound word (unmarked_word marks (lowest_mark marks)) ∷ []) ++ scans_from used (word + 1)
          ≡ (if b then MergeSwap x Handed ∷ [] else []) ++ Settle ∷ later_marks used word marks
      behind_claim x true = refl
      behind_claim x false = refl

-- The mark wasn't set any more, and the next one is taken.
pub took_none : (v w : View) (used word marks found : ℕ) → v.actor.agenda ≡ takes_from used word marks → 0 < marks
    → w ≡ view_after v found → (mark_found v (found_row v.layout v.thread word marks) found == 1) ≡ false
    → w.actor.head ≡ 0 → HasWorked v [] (later_marks used word marks) w
took_none v w used word marks found next some is none still =
    let at = subst (λ (ds : List Duty). HasWorked v [] (ds ++ Settle ∷ later_marks used word marks) w)
    (ap (λ (b : Bool). if b then MergeSwap (found_row v.layout v.thread word marks) Handed ∷ [] else []) none)
    (took v w used word marks found next some is) in
    record {
      agenda =
          at.agenda ∙ (ap (λ (head : ℕ). ready head (Settle ∷ later_marks used word marks)) still
          ∙ sym (ap (λ (head : ℕ). ready head (later_marks used word marks)) still));
      works = at.works;
      keeps = at.keeps;
    }

-- The mark was set, and the object is merged next.
pub took_one : (v w : View) (used word marks found : ℕ) → v.actor.agenda ≡ takes_from used word marks → 0 < marks
    → w ≡ view_after v found → (mark_found v (found_row v.layout v.thread word marks) found == 1) ≡ true
    → HasWorked v [] (MergeSwap
    (found_row v.layout v.thread word marks) Handed ∷ Settle ∷ later_marks used word marks) w
took_one v w used word marks found next some is one =
    subst (λ (ds : List Duty). HasWorked v [] (ds ++ Settle ∷ later_marks used word marks) w)
    (ap (λ (b : Bool). if b then MergeSwap (found_row v.layout v.thread word marks) Handed ∷ [] else []) one)
    (took v w used word marks found next some is)

-- The hand has then settled, and the next mark is taken.
pub took_settled : (v u w : View) (x : ℕ) (cs : List HostCall) (rest : List Duty)
    → HasWorked v [] (MergeSwap x Handed ∷ Settle ∷ rest) u → HasWorked u cs (claimed_left u.actor.agenda) w
    → HasWorked v cs rest w
took_settled v u w x cs rest at settled =
    worked_then v u w [] cs (MergeSwap x Handed ∷ Settle ∷ rest) rest at
    (subst (λ (ds : List Duty). HasWorked u cs (claimed_left ds) w)
    (at.agenda ∙ plain_first u.actor.head (MergeSwap x Handed) (Settle ∷ rest) refl) settled)

-- ---- the marks of a word

-- A mark that was found is taken next.
pub takes_next : (u : View) (used word marks : ℕ) → 0 < marks
    → u.actor.agenda ≡ ready u.actor.head (takes_from used word marks) → u.actor.agenda ≡ takes_from used word marks
takes_next u used word marks some is = is ∙ take_first u.actor.head word marks (scans_from used (word + 1)) some

-- With none left, the next word is loaded.
pub takes_end : {v u : View} {cs : List HostCall} (used word marks : ℕ) → marks ≡ 0
    → HasWorked v cs (takes_from used word marks) u → HasWorked v cs (scans_from used (word + 1)) u
takes_end {v} {u} {cs} used word marks none at = record {
  agenda =
      at.agenda ∙ ap (λ (n : ℕ). ready u.actor.head (takes_from used word n)) none
      ∙ none_taken u.actor.head word (scans_from used (word + 1));
  works = at.works;
  keeps = at.keeps;
}

-- ---- all words

-- A word with used rows is loaded next.
pub scans_next : (u : View) (used word : ℕ) → marks_of_word * word < used
    → u.actor.agenda ≡ ready u.actor.head (scans_from used word) → u.actor.agenda ≡ scans_from used word
scans_next u used word more is =
    is ∙ scan_first u.actor.head word (used - marks_of_word * word) (Finish ∷ []) (omega (arith, more))

-- A word below the number of those that have used rows has one.
pub word_used : (used word : ℕ) → word < words_used used → marks_of_word * word < used
word_used used word low = omega (arith, low)

-- With no row left, the thread goes next.
pub scan_ends : (head used : ℕ) → ready head (scans_from used (words_used used)) ≡ ready head (Finish ∷ [])
scan_ends head used =
    ap (λ (n : ℕ). ready head (Scan (words_used used) n ∷ Finish ∷ [])) (omega (arith))
    ∙ none_scanned head (words_used used) (Finish ∷ [])
