use Rattle.std.specs.Prelude.{◌≡◌, ℕ, ◌<◌, get_or, vec_items, vec_len}
use Rattle.std.proofs.Common.{arith, inl, inr, sym, ap, ◌∙◌, subst}
use Rattle.std.proofs.lemmas.Option.{slice_get_cases}
use Rattle.brc_table.specs.declared.view.View.{View}
use Rattle.brc_table.specs.Views.{is_given, HasJoined}
use Rattle.brc_work.proofs.Places.{ends_for}
use Rattle.brc_work.proofs.threads.fan_out.Goals as goal

-- Each hand is gone, whether its worker has made its calls or was stopped before it began.
pub join_hands-requires-clause-gone : goal.join_hands-requires-clause-gone
join_hands-requires-clause-gone g c = λ k w below.
    let many = c.run_all-gone.ensures.one_each in
    elim (slice_get_cases (vec_items c.tasks_of-tasks.result) k).1 [
      | inl some ↦
          let host = some.0.host.now in
          let ends = (ends_for (c.tasks_of-tasks.ensures.tasks k some.0 host (omega (arith, below, many)))
          (c.run_all-gone.ensures.ends k w some.0 below)).0 in (ends.of, ends.gone, ends.no_field)
      | inr past ↦ absurd (omega (arith, past.0, below, many))
    ]

-- Each worker has made its calls.
pub returns-then-called-clause-gone : goal.returns-then-called-clause-gone
returns-then-called-clause-gone g c = λ k w h below.
    let many = c.run_all-gone.ensures.one_each in
    elim (slice_get_cases (vec_items c.tasks_of-tasks.result) k).1 [
      | inl some ↦
          (ends_for (c.tasks_of-tasks.ensures.tasks k some.0 h (omega (arith, below, many)))
          (c.run_all-gone.ensures.ends k w some.0 below)).1 c.if-called.true
      | inr past ↦ absurd (omega (arith, past.0, below, many))
    ]

-- The hands that main has given out are those of its tasks, and it has joined what each has left.
pub returns-else-called-clause-joined : goal.returns-else-called-clause-joined
returns-else-called-clause-joined g c = λ t given.
    let more = c.join_hands.ensures.more in
    let gone = c.run_all-gone.result.0 in
    let before = sym (ap (λ (v : View). is_given t v) more.same) ∙ given in
    let k = c.tasks_of-tasks.ensures.given t before in
    let low : k.0 < vec_len gone = omega (arith, k.1, c.run_all-gone.ensures.one_each) in
    elim (slice_get_cases (vec_items gone) k.0).1 [
      | inl some ↦
          let w = some.0 in
          let hand = (get_or (vec_items gone) k.0 w).0 in
          let thread : hand.view.thread ≡ t = elim (slice_get_cases (vec_items c.tasks_of-tasks.result) k.0).1 [
            | inl task ↦
                (ends_for (c.tasks_of-tasks.ensures.tasks k.0 task.0 task.0.host.now k.1)
                (c.run_all-gone.ensures.ends k.0 w task.0 low)).0.thread_is ∙ k.2
            | inr past ↦ absurd (omega (arith, past.0, k.1))
          ] in (
            hand.view.actor.used,
            subst (λ (n : ℕ). HasJoined c.join_hands.new.main.view (record { thread = n; used = hand.view.actor.used }))
                thread (c.join_hands.ensures.each k.0 w low),
          )
      | inr past ↦ absurd (omega (arith, past.0, low))
    ]
