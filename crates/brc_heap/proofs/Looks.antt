-- The looks of a hand at the words of threads, one more at a time.
use Rattle.std.proofs.Common.{◌≡◌, ℕ, suc, ◌+◌, List, [], ◌∷◌, ◌++◌, length, sym, ap, ◌∙◌, arith}
use Rattle.std.proofs.lemmas.List.{append_assoc}
use Rattle.brc_table.specs.declared.view.View.{View}
use Rattle.brc_model.specs.declared.event.WordEvent.{WordEvent}
use Rattle.brc_table.specs.Peeks.{peeked}
use Rattle.brc_heap.specs.Ends.{look_at, looks_from, having_looked}

-- A further look is at the thread behind those of the earlier ones.
looks_more : (thread : ℕ) (words : List ℕ) (word : ℕ)
    → looks_from thread (words ++ word ∷ []) ≡ looks_from thread words ++ look_at (thread + length words) word ∷ []
looks_more thread [] word = ap (λ (t : ℕ). look_at t word ∷ []) (omega arith)
looks_more thread (w ∷ ws) word =
    ap (λ (es : List WordEvent). look_at thread w ∷ es)
    (looks_more (suc thread) ws word
    ∙ ap (λ (t : ℕ). looks_from (suc thread) ws ++ look_at t word ∷ []) (omega arith))

-- A hand that has looked at the words of some threads, and looks at the next thread's, has looked at one word more.
pub looked_more : (v u : View) (words : List ℕ) (thread word : ℕ) → length words ≡ thread
    → u ≡ having_looked v words → peeked u thread word ≡ having_looked v (words ++ word ∷ [])
looked_more v u words thread word each looked =
    ap (λ (w : View). peeked w thread word) looked
    ∙ ap (λ (es : List WordEvent). record v { trace = es })
    (append_assoc v.trace (looks_from 0 words) (look_at thread word ∷ [])
    ∙ ap (λ (es : List WordEvent). v.trace ++ es)
    (ap (λ (t : ℕ). looks_from 0 words ++ look_at t word ∷ []) (omega (arith, each))
    ∙ sym (looks_more 0 words word)))
