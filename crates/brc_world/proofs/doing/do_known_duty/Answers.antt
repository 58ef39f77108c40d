-- The step loads and stores the duty's word, and stores the rest of the effect in the thread.
use Rattle.std.specs.Prelude.{length}
use Rattle.std.proofs.Common.{ℕ, ap, sym, ◌∙◌, subst, arith, rules}
use Rattle.brc_model.specs.Machine.{is_running}
use Rattle.brc_model.specs.Within.{Suits}
use Rattle.brc_machine.specs.Storage.{word_in}
use Rattle.brc_effect.proofs.Indices.{indexed}
use Rattle.brc_machine.proofs.Storing.{has_word}
use Rattle.brc_world.proofs.doing.do_known_duty.Goals as goal

pub address_of-address-requires : goal.address_of-address-requires
address_of-address-requires c = record {
  indexed =
      indexed c.args.blocks c.args.number c.args.thread.now.head _ _ c.args.duty.now
      (rw c.requires.columns.rows at c.requires.small) c.requires.there
      (rw c.requires.columns.rows at c.requires.suits);
}

pub load-found-requires : goal.load-found-requires
load-found-requires c =
    rw c.address_of-address.ensures (has_word _ _ _ c.requires.columns c.requires.there)

pub returns : goal.returns
returns c =
    let found = c.load-found.ensures ∙ ap (word_in c.args.memory.now) c.address_of-address.ensures in
    let suits =
    subst (λ (n : ℕ). Suits c.args.number (is_running c.args.thread.now.status) (length c.args.memory.now.local)
    c.args.duty.now n) (sym found) c.requires.suits in
    let left = c.leaves.ensures ∙ c.access_of-access.ensures.word _ _ _ (omega arith) suits in
    record {
      word = rw (left, c.load-found.ensures, c.address_of-address.ensures) at c.store.ensures;
      actor = search rules;
      found = search rules;
      calls = search rules;
      point = search rules;
      variables = search rules;
      turns = search rules;
      outer = search rules;
      mode = search rules;
    }
