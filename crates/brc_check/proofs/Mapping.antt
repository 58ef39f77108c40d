-- An array whose elements a function has replaced one by one.
use Rattle.std.proofs.Common.{◌≡◌, ℕ, ◌<◌, List, length, sym, subst, ◌∙◌}
use Rattle.std.specs.Prelude.{map}
use Rattle.std.specs.Array.{IsMapOf}
use Rattle.std.specs.Fn.{Called}
use Rattle.std.proofs.lemmas.List.{get_or-map, ext_get_or, length-map}
use denote.Param.Members.{Mut}

-- if each call answers what h says, the array is h of each element
pub mapped : {F A B : Type 0} (g : Mut F (A × Unit {0}) B) (f : F) (xs : List A) (ys : List B) (n : ℕ) (h : A → B)
    (d : A) → ((p q : F) (x : A) (y : B) → Called g p (x, tt) y q → y ≡ h x) → length xs ≡ n → IsMapOf g f xs ys n
    → ys ≡ map h xs
mapped g f xs ys n h d answers long is =
    ext_get_or (h d) ys (map h xs) (is.long ∙ sym long ∙ sym (length-map xs h))
    (λ i lt.
    let below : i < n = subst (λ m. i < m) is.long lt in
    let within : i < length xs = subst (λ m. i < m) (sym long) below in
    let turn = is.at i d (h d) below in
    answers turn.0 turn.1 _ _ turn.2 ∙ sym (get_or-map h xs i d (h d) within))
