-- How confirmed faults and accepted texts grow, one after another.
use Rattle.std.proofs.Common.{◌≡◌, ℕ, zero, suc, ◌+◌, ◌<◌, List, [], ◌∷◌, ◌++◌, length, get_or, map, refl, sym, ap}
use Rattle.std.proofs.Common.{◌∙◌, subst, inl, inr, append_assoc, arith}
use Rattle.std.specs.Prelude.{Contains}
use Rattle.std.proofs.lemmas.List.Elements.{Contains-push_cases}
use Rattle.brc_c_paths.specs.declared.fault.Fault.{Fault}
use Rattle.brc_c_image.specs.declared.image.Text.{Text}
use Rattle.brc_c_judge.specs.Texts.{Shown, IsShown, IsConfirmed}
use Rattle.brc_c_judge.specs.Verdicts.{AreShown, faults_in, texts_in}

-- what holds of each element, and of one more
pub each_more : {A : Type 0} (P : A → Type 0) (xs : List A) (x : A) → ((y : A) → Contains xs y → P y) → P x
    → (y : A) → Contains (xs ++ x ∷ []) y → P y
each_more {A} P xs x all here y among =
    elim (Contains-push_cases xs x y among) as (λ _. P y) [
      | inl before ↦ all y before
      | inr same ↦ subst P same here
    ]

-- an iterator's elements: those in front, and the ones that are left
pub front_more : {A : Type 0} (front left left' all : List A) (x : A) → front ++ left ≡ all → left ≡ x ∷ left'
    → (front ++ x ∷ []) ++ left' ≡ all
front_more front left left' all x so next =
    append_assoc front (x ∷ []) left' ∙ (ap (λ rest. front ++ rest) (sym next) ∙ so)

pub one_less : {A : Type 0} (left left' : List A) (x : A) (n n' : ℕ) → n ≡ length left → left ≡ x ∷ left'
    → n' + 1 ≡ n → n' ≡ length left'
one_less left left' x n n' so next gone = let shorter = ap length next in omega arith

map-push : {A B : Type 0} (f : A → B) (xs : List A) (x : A) → map f (xs ++ x ∷ []) ≡ map f xs ++ f x ∷ []
map-push f [] x = refl
map-push f (y ∷ xs) x = ap (λ zs. f y ∷ zs) (map-push f xs x)

-- the faults are confirmed, each by its text; the other texts are left
pub record AreConfirmed (faults : List Fault) (left all : List Text) (confirmed : List Shown) : Type 0 where
  pub faults_are : faults_in confirmed ≡ faults
  pub texts_are : texts_in confirmed ++ left ≡ all
  pub shown : AreShown confirmed

-- one more
pub confirmed_more : (faults : List Fault) (left left' all : List Text) (confirmed confirmed' : List Shown)
    (it : Shown) → AreConfirmed faults left all confirmed → left ≡ it.text ∷ left'
    → IsConfirmed it confirmed confirmed' → AreConfirmed (faults ++ it.fault ∷ []) left' all confirmed'
confirmed_more faults left left' all confirmed confirmed' it so here more =
    record {
      faults_are = ap faults_in more.added
          ∙ (map-push (λ one. one.fault) confirmed it
          ∙ ap (λ (fs : List Fault). fs ++ it.fault ∷ []) so.faults_are);
      texts_are = ap (λ (shown : List Shown). texts_in shown ++ left') more.added
          ∙ (ap (λ (ts : List Text). ts ++ left') (map-push (λ one. one.text) confirmed it)
          ∙ (append_assoc (texts_in confirmed) (it.text ∷ []) left'
          ∙ (ap (λ (ts : List Text). texts_in confirmed ++ ts) (sym here) ∙ so.texts_are)));
      shown = subst AreShown (sym more.added) (each_more IsShown confirmed it so.shown more.shown);
    }

-- an element, of which f makes another one
pub record IsMadeOf {A B : Type 0} (f : A → B) (xs : List A) (y : B) : Type 0 where
  pub x : A
  pub among : Contains xs x
  pub makes : f x ≡ y

made_of : {A B : Type 0} (f : A → B) (xs : List A) (k : ℕ) (y : B) → k < length (map f xs)
    → get_or (map f xs) k y ≡ y → IsMadeOf f xs y
made_of f [] k y within is = absurd (omega arith)
made_of f (x ∷ xs) zero y within is = record { x = x; among = (0, omega arith, refl); makes = is }
made_of f (x ∷ xs) (suc k) y within is =
    let later = made_of f xs k y (omega arith) is in
    record {
      x = later.x;
      among = (suc later.among.0, omega (arith, later.among.1), later.among.2);
      makes = later.makes;
    }

-- what is among the results comes of an element
pub of_some : {A B : Type 0} (f : A → B) (xs : List A) (y : B) → Contains (map f xs) y → IsMadeOf f xs y
of_some f xs y among = made_of f xs among.0 y among.1 among.2

made_among : {A B : Type 0} (f : A → B) (xs : List A) (k : ℕ) (x : A) → k < length xs → get_or xs k x ≡ x
    → Contains (map f xs) (f x)
made_among f [] k x within is = absurd (omega arith)
made_among f (y ∷ xs) zero x within is = (0, omega arith, ap f is)
made_among f (y ∷ xs) (suc k) x within is =
    let later : Contains (map f xs) (f x) = made_among f xs k x (omega arith) is in
    (suc later.0, omega (arith, later.1), later.2)

-- what comes of an element is among the results
pub among_results : {A B : Type 0} (f : A → B) (xs : List A) (x : A) → Contains xs x → Contains (map f xs) (f x)
among_results f xs x among = made_among f xs among.0 x among.1 among.2
