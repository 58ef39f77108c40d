use Rattle.std.specs.Prelude.{◌≡◌, ℕ, ◌+◌, ◌<◌, get_or}
use Rattle.std.specs.Vec.Iter.{into_iter_items, into_iter_len}
use Rattle.brc_table.specs.Hands.{IsOf}
use Rattle.brc_table.specs.Views.{HasJoined}
use Rattle.brc_work.specs.Mains.{JoinsMore}
use Rattle.brc_work.proofs.joining.join_hands.Given as goal

-- Main has joined the hands so far, and the next one follows them in the list.
abbrev pub invariant-loop-left : goal.invariant-loop-left
invariant-loop-left g l = record {
  of : IsOf l.fn.heap l.main;
  carried : l.main.carried ≡ l.fn.main.carried;
  fields : l.main.fields ≡ l.fn.main.fields;
  more : JoinsMore l.fn.main.view l.main.view;
  joined : ℕ;
  passed : joined + into_iter_len l.left-iterator ≡ into_iter_len l.initial.left-iterator;
  place : (k : ℕ) (w : _) → k < into_iter_len l.left-iterator → get_or (into_iter_items l.left-iterator) k w
      ≡ get_or (into_iter_items l.initial.left-iterator) (joined + k) w;
  each : (k : ℕ) (w : _) → k < joined → let hand = (get_or (into_iter_items l.initial.left-iterator) k w).0 in
      HasJoined l.main.view (record { thread = hand.view.thread; used = hand.view.actor.used });
}
