-- The step does the first duty of the agenda or, if there is none, what the thread dispatches.
use Rattle.std.proofs.Common.{◌≡◌, [], ◌∷◌, refl, sym, ap, ◌∙◌, arith, rules, append-nil}
use Rattle.std.specs.Prelude.{reverse}
use Rattle.std.proofs.lemmas.List.{reverse-append}
use Rattle.brc_world.proofs.Acting.{first_action}
use Rattle.brc_world.specs.Actors.{actor_of}
use Rattle.brc_world.proofs.doing.act.Goals as goal

-- ---- a duty left

pub returns-in-Some : goal.returns-in-Some
returns-in-Some c =
    let first : reverse c.args.thread.now.agenda.items ≡ c.in-Some.duty ∷ reverse c.pop.new.self.items =
    ap reverse (sym c.in_ok-reserve.ensures.items ∙ c.in-Some.ensures.items)
    ∙ reverse-append c.pop.new.self.items (c.in-Some.duty ∷ []) in
    let does =
    first_action c.args.functions.now c.args.blocks c.args.number (actor_of c.args.thread.now) c.in-Some.duty
    (reverse c.pop.new.self.items) c.in_default.not-Gone first in
    rw (does, first) (record {
      did = refl;
      turned = record {
        words = c.do_duty.ensures.word.words;
        actor = c.do_duty.ensures.actor;
        faults_are = c.count_duty.ensures;
        same_words = tt;
        same_actor = tt;
        same_faults = tt;
        rows = c.do_duty.ensures.word.rows;
        threads = c.do_duty.ensures.word.threads;
        cells = c.do_duty.ensures.word.width;
      };
      refused = tt;
    })

-- ---- no duty left

pub act_by_dispatch-requires : goal.act_by_dispatch-requires
act_by_dispatch-requires c =
    let same = sym (append-nil c.pop.new.self.items) ∙ sym c.in-None.ensures.items ∙ c.in_ok-reserve.ensures.items in
    record {
      columns = c.requires.columns;
      small = c.requires.small;
      known = c.requires.known;
      alive = c.in_default.not-Gone;
      empty = search rules;
      room = omega (arith, c.in_ok-reserve.ensures.ok, c.in-None.ensures.capacity);
      can = rw same c.requires.can;
    }

pub returns-in-None : goal.returns-in-None
returns-in-None c =
    let same = sym (append-nil c.pop.new.self.items) ∙ sym c.in-None.ensures.items ∙ c.in_ok-reserve.ensures.items in
    record {
      did = rw same at c.act_by_dispatch.ensures.did;
      turned = rw same at c.act_by_dispatch.ensures.turned;
      refused = tt;
    }
