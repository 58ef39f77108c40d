-- Writes one after another, of which one stops at an error.
use Rattle.std.proofs.Common.{◌≡◌, ℕ, ◌<◌, suc, get_or, drop-cons, ◌∙◌, List, ◌++◌, Option, Result, Ok, Err, sym, ap}
use Rattle.std.proofs.Common.{append_assoc, take, drop, take-append-drop, length, subst, OnErr}
use Rattle.std.specs.List.{flat_map}
use Rattle.std.proofs.lemmas.Grind.{flat_map-append}
use Rattle.std.specs.Io.KnownBytes.{Appends}
use Rattle.std.proofs.KnownBytes.{Appends-trans}
use Rattle.brc_lang.specs.Written.{AppendsBeginning}

-- ---- one write after another

begins_early : (a b : Option (List ℕ)) (xs ys : List ℕ) → AppendsBeginning a b xs → AppendsBeginning a b (xs ++ ys)
begins_early a b xs ys begun = record {
  front = begun.front;
  rest = begun.rest ++ ys;
  parts = ap (λ l. l ++ ys) begun.parts ∙ append_assoc begun.front begun.rest ys;
  appended = begun.appended;
}

begins_late : (a b c : Option (List ℕ)) (xs ys : List ℕ) → Appends a b xs → AppendsBeginning b c ys
    → AppendsBeginning a c (xs ++ ys)
begins_late a b c xs ys first begun = record {
  front = xs ++ begun.front;
  rest = begun.rest;
  parts = ap (λ l. xs ++ l) begun.parts ∙ sym (append_assoc xs begun.front begun.rest);
  appended = Appends-trans a b c xs begun.front first begun.appended;
}

-- the first of two writes stopped at an error, which is returned as r
pub stops_early : {X E : Type 0} (r : Result X E) (a b : Option (List ℕ)) (bytes xs ys : List ℕ) → bytes ≡ xs ++ ys
    → AppendsBeginning a b xs → OnErr r (AppendsBeginning a b bytes)
stops_early (Ok x) a b bytes xs ys parts begun = tt
stops_early (Err e) a b bytes xs ys parts begun =
    subst (AppendsBeginning a b) (sym parts) (begins_early a b xs ys begun)

-- the second did, and its result is returned
pub stops_late : {X E : Type 0} (r : Result X E) (a b c : Option (List ℕ)) (bytes xs ys : List ℕ) → bytes ≡ xs ++ ys
    → Appends a b xs → OnErr r (AppendsBeginning b c ys) → OnErr r (AppendsBeginning a c bytes)
stops_late (Ok x) a b c bytes xs ys parts first begun = tt
stops_late (Err e) a b c bytes xs ys parts first begun =
    subst (AppendsBeginning a c) (sym parts) (begins_late a b c xs ys first begun)

-- the second of three did
pub stops_between : {X E : Type 0} (r : Result X E) (a b c : Option (List ℕ)) (bytes xs ys zs : List ℕ)
    → bytes ≡ xs ++ ys ++ zs → Appends a b xs → AppendsBeginning b c ys → OnErr r (AppendsBeginning a c bytes)
stops_between r a b c bytes xs ys zs parts first begun =
    stops_early r a c bytes (xs ++ ys) zs parts (begins_late a b c xs ys first begun)

-- ---- the items of a list, written one after another

pub flat_map_around : {X : Type 0} (f : X → List ℕ) (xs : List X) (i : ℕ) (d x : X) → i < length xs → x ≡ get_or xs i d
    → flat_map f xs ≡ flat_map f (take i xs) ++ f x ++ flat_map f (drop (suc i) xs)
flat_map_around f xs i d x inside item =
    let front = flat_map f (take i xs) in
    let back = flat_map f (drop (suc i) xs) in
    ap (flat_map f) (sym (take-append-drop i xs)) ∙ flat_map-append f (take i xs) (drop i xs)
    ∙ ap (λ l. front ++ flat_map f l) (drop-cons xs i d inside)
    ∙ ap (λ y. front ++ (f y ++ back)) (sym item)
    ∙ sym (append_assoc front (f x) back)
