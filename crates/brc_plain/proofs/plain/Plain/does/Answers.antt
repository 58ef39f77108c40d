use Rattle.std.proofs.Common.{◌≡◌, true, List, length, map, ap, ◌∙◌, arith, rules}
use Rattle.std.proofs.lemmas.List.{with_items_is}
use Rattle.brc_model.specs.AbstractState.{moved}
use Rattle.brc_model.specs.Machine.{life_by}
use Rattle.brc_effect.specs.Effects.{duties_of}
use Rattle.brc_plain.specs.declared.bag.Move.{Move}
use Rattle.brc_plain.specs.declared.lives.Life.{Life}
use Rattle.brc_plain.specs.Acts.{place_at, rest_in}
use Rattle.brc_plain.specs.Bags.{bag_in, move_in}
use Rattle.brc_plain.specs.Lives.{life_at}
use Rattle.brc_plain.specs.Places.{place_in}
use Rattle.brc_machine.specs.Storage.{word_in}
use Rattle.brc_plain.proofs.Steps.{duty_step}
use Rattle.brc_plain.proofs.plain.Plain.does.Goals as goal

pub returns : goal.returns
returns c = λ a here.
    let p = c.args.self.now in
    let touch = c.in_ok-touch.touch in
    let lives : length c.live_on.new.lives ≡ p.lives.len =
    omega (arith, c.live_on.auto.lives, ap length c.as_mut_slice.ensures.value, p.lives.ok.0) in
    let stored : c.put.result ≡ true = search rules in
    duty_step p c.args.number c.in_ok-own.own _ c.index_mut-thread.result.now c.go_on.new.self a c.args.exit
    c.args.duty.now (rest_in c.args.rest) c.in_ok-agenda.field-0.items (place_at c.args.after)
    (place_in c.in_ok-at.field-0) c.effect-effect.result touch.address touch.found touch.left (word_in c.put.new.self)
    (bag_in c.make_all.new.self) _ c.count_duty.new.self c.in_ok-own.ensures.0 c.index_mut-thread.ensures.value
    c.requires here c.in_ok-touch.ensures.there c.in_ok-touch.ensures.found c.in_ok-touch.ensures.left
    c.effect-effect.ensures c.in_ok-agenda.ensures c.in_ok-at.ensures c.in_ok-go_on.ensures (c.put.ensures stored)
    (c.in_ok-make_all.ensures
    ∙ ap (λ (l : List Move). moved (bag_in p.bag) (map move_in l)) c.as_slice.ensures.value
    ∙ ap (moved (bag_in p.bag)) c.in_ok-moves.ensures)
    (ap life_at (with_items_is p.lives c.live_on.new.lives lives) ∙ c.in_ok-live_on.ensures
    ∙ ap (λ (l : List Life). life_by (life_at l) c.in_ok-own.own c.args.duty.now
    (duties_of c.effect-effect.result.next)) c.as_mut_slice.ensures.value)
    c.count_duty.ensures
