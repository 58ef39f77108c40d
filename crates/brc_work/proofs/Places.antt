-- Lists of which each element is so for its place.
use Rattle.std.specs.Prelude.{◌≡◌, ℕ, ◌+◌, ◌<◌, Bool, true, false, List, Result, Ok, Err, IfOk, IfErr, get_or}
use Rattle.std.proofs.Common.{below_more, refl, sym, ◌∙◌, subst}
use Rattle.brc_host.specs.HostCalls.{HostCall}
use Rattle.brc_host.specs.declared.counts.HostCounts.{HostCounts}
use Rattle.brc_table.specs.Hands.{HandState}
use Rattle.brc_work.specs.declared.ran.Ran.{Ran}
use Rattle.brc_work.specs.Workers.{Job, Ends}

-- each of the first n elements is so for its place
abbrev pub AreSo : {A : Type 0} → (ℕ → A → Type 0) → List A → ℕ → Type 0
AreSo {A = A} P xs n = (k : ℕ) (d : A) → k < n → P k (get_or xs k d)

-- a list that has one element more
pub pushed : {A : Type 0} (P : ℕ → A → Type 0) (xs ys : List A) (n : ℕ) (x : A)
    → ((k : ℕ) (d : A) → k < n → get_or ys k d ≡ get_or xs k d) → ((d : A) → get_or ys n d ≡ x)
    → AreSo P xs n → P n x → AreSo P ys (n + 1)
pushed P xs ys n x same here were now k d below =
    below_more (λ i. P i (get_or ys i d)) n (λ i low. subst (P i) (sym (same i d low)) (were i d low))
    (subst (P n) (sym (here d)) now) k below

-- a list with one element more, which isn't named
pub grown : {A : Type 0} (P : ℕ → A → Type 0) (xs ys : List A) (n : ℕ)
    → ((k : ℕ) (d : A) → k < n → get_or ys k d ≡ get_or xs k d) → ((d : A) → P n (get_or ys n d)) → AreSo P xs n
    → AreSo P ys (n + 1)
grown P xs ys n same here were k d below =
    below_more (λ i. P i (get_or ys i d)) n (λ i low. subst (P i) (sym (same i d low)) (were i d low)) (here d) k below

-- What a worker's thread leaves for one job it leaves for an equal one,
pub ends_for : {S : Type 0} {answers : S → HostCall → S → Type 0} {counts : S → HostCounts} {there j : Job S}
    {hand : HandState} {ran : Ran} {called : Bool} → there ≡ j → Ends answers counts there hand ran called
    → Ends answers counts j hand ran called
ends_for {answers = answers} {counts = counts} {hand = hand} {ran = ran} {called = called} same ends =
    subst (λ i. Ends answers counts i hand ran called) same ends

-- and it is so of a worker among others that have all made their calls only if it has made its own.
pub ends_among : {S : Type 0} {answers : S → HostCall → S → Type 0} {counts : S → HostCounts} {j : Job S}
    {hand : HandState} {ran : Ran} {called all : Bool} → (all ≡ true → called ≡ true)
    → Ends answers counts j hand ran called → Ends answers counts j hand ran all
ends_among so ends = (ends.0, λ each. ends.1 (so each))

-- What a worker hasn't done, not all have done.
pub not_so : {all called : Bool} → (all ≡ true → called ≡ true) → called ≡ false → all ≡ false
not_so {all = true} so is = absurd (let wrong = sym (so refl) ∙ is in cc)
not_so {all = false} so is = refl

-- A worker that has a thread was promised its job,
pub begun_in_thread : {A B S : Type 0} (promised : A → Job S) (left : Job S → B → Type 0) {b : Result A B} {s : A}
    {j : Job S} → b ≡ Ok s → promised s ≡ j → IfOk b (λ s. promised s ≡ j) × IfErr b (left j)
begun_in_thread promised left {j = j} is same =
    subst (λ b. IfOk b (λ s. promised s ≡ j) × IfErr b (left j)) (sym is) (same, tt)

-- and one that has none has left.
pub left_in_main : {A B S : Type 0} (promised : A → Job S) (left : Job S → B → Type 0) {b : Result A B} {d : B}
    {j : Job S} → b ≡ Err d → left j d → IfOk b (λ s. promised s ≡ j) × IfErr b (left j)
left_in_main promised left {j = j} is done =
    subst (λ b. IfOk b (λ s. promised s ≡ j) × IfErr b (left j)) (sym is) (tt, done)
