-- Writes that are whole, or that stop at an error.
use Rattle.std.proofs.Common.{◌≡◌, ℕ, ◌-◌, ◌<◌, suc, get_or, drop-cons, ◌∙◌, List, ◌++◌, Option, Result, Ok, Err, sym}
use Rattle.std.proofs.Common.{[], ◌∷◌, ◌+◌, append-nil, ap, append_assoc, take, drop, take-append-drop, length, subst}
use Rattle.std.proofs.Common.{OnOk, OnErr}
use Rattle.std.proofs.lemmas.List.{take_rest, take_more}
use Rattle.std.specs.List.{flat_map}
use Rattle.std.proofs.lemmas.Grind.{flat_map-append}
use Rattle.std.specs.Io.KnownBytes.{Appends}
use Rattle.std.proofs.KnownBytes.{Appends-trans}
use Rattle.brc_lang.specs.declared.module.Function.{Function}
use Rattle.brc_lang.specs.Grammar.{function, functions, functions_below}
use Rattle.brc_lang.specs.Written.{AppendsBeginning}

-- ---- the bytes of one write

-- of the bytes, all but the rest was written
abbrev pub LeavesRest : Option (List ℕ) → Option (List ℕ) → List ℕ → List ℕ → Type 0
LeavesRest old new bytes rest = (front : List ℕ) × (bytes ≡ front ++ rest) × Appends old new front

moves : (bytes front rest : List ℕ) (taken : ℕ) → bytes ≡ front ++ rest
    → bytes ≡ (front ++ take taken rest) ++ take (length rest - taken) (drop taken rest)
moves bytes front rest taken parts =
    parts ∙ ap (λ r. front ++ r) (sym (take-append-drop taken rest))
    ∙ sym (append_assoc front (take taken rest) (drop taken rest))
    ∙ ap (λ r. (front ++ take taken rest) ++ r) (sym (take_rest rest taken))

-- the rest is spelled as the code has it after `&rest[taken..]`
pub leaves_less : (a b c : Option (List ℕ)) (bytes rest : List ℕ) (taken : ℕ) → LeavesRest a b bytes rest
    → Appends b c (take taken rest)
    → LeavesRest a c bytes (take (length rest - taken) (drop taken rest))
leaves_less a b c bytes rest taken before now = (
  before.0 ++ take taken rest,
  moves bytes before.0 rest taken before.1,
  Appends-trans a b c before.0 (take taken rest) before.2 now,
)

-- ---- one write after another

begins_early : (a b : Option (List ℕ)) (xs ys : List ℕ) → AppendsBeginning a b xs → AppendsBeginning a b (xs ++ ys)
begins_early a b xs ys begun = record {
  front = begun.front;
  rest = begun.rest ++ ys;
  parts = ap (λ l. l ++ ys) begun.parts ∙ append_assoc begun.front begun.rest ys;
  appended = begun.appended;
}

begins_late : (a b c : Option (List ℕ)) (xs ys : List ℕ) → Appends a b xs → AppendsBeginning b c ys
    → AppendsBeginning a c (xs ++ ys)
begins_late a b c xs ys first begun = record {
  front = xs ++ begun.front;
  rest = begun.rest;
  parts = ap (λ l. xs ++ l) begun.parts ∙ sym (append_assoc xs begun.front begun.rest);
  appended = Appends-trans a b c xs begun.front first begun.appended;
}

-- the first of two writes stopped at an error, which is returned as r
pub stops_early : {X E : Type 0} (r : Result X E) (a b : Option (List ℕ)) (bytes xs ys : List ℕ) → bytes ≡ xs ++ ys
    → AppendsBeginning a b xs → OnErr r (AppendsBeginning a b bytes)
stops_early (Ok x) a b bytes xs ys parts begun = tt
stops_early (Err e) a b bytes xs ys parts begun =
    subst (AppendsBeginning a b) (sym parts) (begins_early a b xs ys begun)

-- the second did, and its result is returned
pub stops_late : {X E : Type 0} (r : Result X E) (a b c : Option (List ℕ)) (bytes xs ys : List ℕ) → bytes ≡ xs ++ ys
    → Appends a b xs → OnErr r (AppendsBeginning b c ys) → OnErr r (AppendsBeginning a c bytes)
stops_late (Ok x) a b c bytes xs ys parts first begun = tt
stops_late (Err e) a b c bytes xs ys parts first begun =
    subst (AppendsBeginning a c) (sym parts) (begins_late a b c xs ys first begun)

-- the second of three did
pub stops_between : {X E : Type 0} (r : Result X E) (a b c : Option (List ℕ)) (bytes xs ys zs : List ℕ)
    → bytes ≡ xs ++ ys ++ zs → Appends a b xs → AppendsBeginning b c ys → OnErr r (AppendsBeginning a c bytes)
stops_between r a b c bytes xs ys zs parts first begun =
    stops_early r a c bytes (xs ++ ys) zs parts (begins_late a b c xs ys first begun)

-- both are whole if the second is, and its result is returned
pub ends_whole : {X E : Type 0} (r : Result X E) (a b c : Option (List ℕ)) (bytes xs ys : List ℕ) → bytes ≡ xs ++ ys
    → Appends a b xs → OnOk r (Appends b c ys) → OnOk r (Appends a c bytes)
ends_whole (Ok x) a b c bytes xs ys parts first last =
    subst (Appends a c) (sym parts) (Appends-trans a b c xs ys first last)
ends_whole (Err e) a b c bytes xs ys parts first last = tt

-- ---- the items of a list, written one after another

pub flat_map_around : {X : Type 0} (f : X → List ℕ) (xs : List X) (i : ℕ) (d x : X) → i < length xs → x ≡ get_or xs i d
    → flat_map f xs ≡ flat_map f (take i xs) ++ f x ++ flat_map f (drop (suc i) xs)
flat_map_around f xs i d x inside item =
    let front = flat_map f (take i xs) in
    let back = flat_map f (drop (suc i) xs) in
    ap (flat_map f) (sym (take-append-drop i xs)) ∙ flat_map-append f (take i xs) (drop i xs)
    ∙ ap (λ l. front ++ flat_map f l) (drop-cons xs i d inside)
    ∙ ap (λ y. front ++ (f y ++ back)) (sym item)
    ∙ sym (append_assoc front (f x) back)

-- ---- the functions of a module, each written below those before it

-- two lists of functions, the second below the first
functions_below_append : (above fs gs : List Function)
    → functions_below above (fs ++ gs) ≡ functions_below above fs ++ functions_below (above ++ fs) gs
functions_below_append above [] gs = ap (λ a. functions_below a gs) (sym (append-nil above))
functions_below_append above (f ∷ fs) gs =
    let next = above ++ f ∷ [] in
    ap (λ l. function above f ++ l) (functions_below_append next fs gs)
    ∙ ap (λ a. function above f ++ (functions_below next fs ++ functions_below a gs)) (append_assoc above (f ∷ []) fs)
    ∙ sym (append_assoc (function above f) (functions_below next fs) (functions_below (above ++ f ∷ fs) gs))

-- the functions before one and it
pub functions_so_far : (fs : List Function) (i : ℕ) (d f : Function) → i < length fs → f ≡ get_or fs i d
    → functions (take (i + 1) fs) ≡ functions (take i fs) ++ function (take i fs) f
functions_so_far fs i d f inside item =
    ap functions (take_more fs i d inside) ∙ functions_below_append [] (take i fs) (get_or fs i d ∷ [])
    ∙ ap (λ l. functions (take i fs) ++ l) (append-nil (function (take i fs) (get_or fs i d)))
    ∙ ap (λ g. functions (take i fs) ++ function (take i fs) g) (sym item)

-- the functions before one, it and those after it
pub functions_around : (fs : List Function) (i : ℕ) (d f : Function) → i < length fs → f ≡ get_or fs i d
    → functions fs
    ≡ functions (take i fs) ++ function (take i fs) f ++ functions_below (take (i + 1) fs) (drop (i + 1) fs)
functions_around fs i d f inside item =
    let back = functions_below (take (i + 1) fs) (drop (i + 1) fs) in
    ap functions (sym (take-append-drop (i + 1) fs))
    ∙ functions_below_append [] (take (i + 1) fs) (drop (i + 1) fs)
    ∙ ap (λ l. l ++ back) (functions_so_far fs i d f inside item)
