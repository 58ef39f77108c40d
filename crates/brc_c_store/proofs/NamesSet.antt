-- A name gets a value: at the place of its number, an old value is replaced, or the name is inserted.
use Rattle.std.proofs.Common.{◌≡◌, ℕ, ◌+◌, Bool, true, false, cond, List, [], ◌∷◌}
use Rattle.std.proofs.Common.{set, insert, slice_get, refl, ap}
use Rattle.std.proofs.Math.Numerals.{one-add}
use Rattle.std.specs.List.{prefix_len}
use Rattle.std.specs.Option.{option_map_or}
use Rattle.brc_c_store.specs.declared.value.Local.{Local}
use Rattle.brc_c_store.specs.declared.value.Value.{Value}
use Rattle.brc_c_store.specs.declared.store.Named.{Named}
use Rattle.brc_c_store.specs.Stores.{is_of, is_before, named, with_named}

module _ (local : Local) (value : Value) where
  -- the name at the place is the one that gets the value
  abbrev is_there : List Named → ℕ → Bool
  is_there ns place = option_map_or (is_of local) (slice_get ns place) false

  abbrev place_in : List Named → ℕ
  place_in ns = prefix_len (is_before local) ns

  replaced_by : (before here : Bool) (n : Named) (ns : List Named) → is_of local n ≡ here
      → (is_there ns (place_in ns) ≡ true → set ns (place_in ns) (named local value) ≡ with_named ns local value)
      → is_there (n ∷ ns) (cond before (1 + place_in ns) 0) ≡ true
      → set (n ∷ ns) (cond before (1 + place_in ns) 0) (named local value)
      ≡ cond before (n ∷ with_named ns local value)
      (cond here (named local value ∷ ns) (named local value ∷ n ∷ ns))
  replaced_by true here n ns e rest h = rw one-add (ap (λ ms. n ∷ ms) (rest (rw one-add at h)))
  replaced_by false true n ns e rest h = refl
  replaced_by false false n ns e rest h = cc

  pub replaced : (ns : List Named) → is_there ns (place_in ns) ≡ true
      → set ns (place_in ns) (named local value) ≡ with_named ns local value
  unfolding with_named
  replaced [] h = cc
  replaced (n ∷ ns) h = replaced_by (is_before local n) (is_of local n) n ns refl (replaced ns) h

  inserted_by : (before here : Bool) (n : Named) (ns : List Named) → is_of local n ≡ here
      → (is_there ns (place_in ns) ≡ false → insert ns (place_in ns) (named local value) ≡ with_named ns local value)
      → is_there (n ∷ ns) (cond before (1 + place_in ns) 0) ≡ false
      → insert (n ∷ ns) (cond before (1 + place_in ns) 0) (named local value)
      ≡ cond before (n ∷ with_named ns local value)
      (cond here (named local value ∷ ns) (named local value ∷ n ∷ ns))
  inserted_by true here n ns e rest h = rw one-add (ap (λ ms. n ∷ ms) (rest (rw one-add at h)))
  inserted_by false true n ns e rest h = cc
  inserted_by false false n ns e rest h = refl

  pub inserted : (ns : List Named) → is_there ns (place_in ns) ≡ false
      → insert ns (place_in ns) (named local value) ≡ with_named ns local value
  unfolding with_named
  inserted [] h = refl
  inserted (n ∷ ns) h = inserted_by (is_before local n) (is_of local n) n ns refl (inserted ns) h
