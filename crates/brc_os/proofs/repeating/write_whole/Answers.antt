use Rattle.std.proofs.Common.{◌≡◌, ℕ, ◌-◌, List, ◌++◌, length, take, drop, sym, ap, ◌∙◌, append_assoc, take-append-drop}
use Rattle.std.proofs.lemmas.List.{take_rest}
use Rattle.std.proofs.KnownBytes.{Appends-trans}
use Rattle.brc_os.proofs.repeating.write_whole.Goals as goal

-- The first bytes of the rest are written too.
written_more : (all written rest : List ℕ) (n : ℕ) → all ≡ written ++ rest
    → all ≡ (written ++ take n rest) ++ take (length rest - n) (drop n rest)
written_more all written rest n split =
    split ∙ ap (λ l. written ++ l) (sym (take-append-drop n rest))
    ∙ sym (append_assoc written (take n rest) (drop n rest))
    ∙ ap (λ l. (written ++ take n rest) ++ l) (sym (take_rest rest n))

pub loop-rest-preserved : goal.loop-rest-preserved
loop-rest-preserved g c =
    let (written, split, appended) = c.loop-rest.invariant in
    let rest = c.loop-rest.rest.now in
    let count = c.in_ok-count.count in (
      written ++ take count rest,
      written_more _ written rest count split,
      Appends-trans _ _ _ _ _ appended c.in_ok-count.ensures.bytes,
    )
