-- A claim that finds a mark takes it.
use Rattle.std.proofs.Common.{◌≡◌, true, sym, ◌∙◌}
use Rattle.brc_machine.specs.Storage.{word_in}
use Rattle.brc_world.specs.Actors.{actor_of, finds_mark}
use Rattle.brc_world.proofs.Claiming.{claim_did, claim_words, claim_actor}
use Rattle.brc_world.proofs.claim_and_stop.claim.Goals as goal

pub returns : goal.returns
returns c =
    let memory = word_in c.args.memory.now in
    let thread = actor_of c.args.thread.now in
    let found : finds_mark c.args.blocks c.args.number memory thread c.args.row ≡ true =
    sym c.finds_mark.ensures ∙ c.if-not-finds_mark.false in
    record {
      did =
          claim_did c.args.blocks c.args.number memory thread c.args.row c.args.thread.now.status c.in_default.not-Gone
          found;
      words = c.do_duty.ensures.word.words ∙ claim_words c.args.blocks c.args.number memory thread c.args.row found;
      actor =
          (rw c.in_ok-reserve.ensures.items at c.do_duty.ensures.actor)
          ∙ claim_actor c.args.blocks c.args.number memory thread c.args.row found;
      same_words = tt;
      same_actor = tt;
      refused = tt;
      as_many_rows = c.do_duty.ensures.word.rows;
      as_many_threads = c.do_duty.ensures.word.threads;
      as_many_cells = c.do_duty.ensures.word.width;
    }
