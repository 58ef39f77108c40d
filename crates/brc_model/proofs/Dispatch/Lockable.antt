-- What can be locked: the kind word of an object of a lockable kind names such a kind.
use Rattle.std.proofs.Common.{◌≡◌, ℕ, true, false, inl, inr, sym, ap, ◌∙◌}
use Rattle.brc_lang.specs.declared.kind.Kind.{Kind}
use Rattle.brc_model.specs.Kinds.{kind_of_word}
use Rattle.brc_model.specs.SlotStates.{is_one_of, lockable}
use Rattle.brc_model.specs.KnownKinds.{IsTrueKind}

-- If the checker knows that a kind can be locked, the kind word says so.
pub lockable_word : (kind : Kind) (word : ℕ) → IsTrueKind kind word → is_one_of kind lockable ≡ true
    → is_one_of (kind_of_word word) lockable ≡ true
lockable_word kind word (inl any) can =
    absurd (let wrong : false ≡ true = sym (ap (λ (k : Kind). is_one_of k lockable) any) ∙ can in cc)
lockable_word kind word (inr names) can = ap (λ (k : Kind). is_one_of k lockable) names ∙ can
