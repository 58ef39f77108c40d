use Rattle.std.proofs.Common.{subst}
use Rattle.brc_lang.specs.declared.module.Function.{Function}
use Rattle.std.specs.Prelude.{List}
use Rattle.brc_explain.specs.Rows.{IsNamed, NoneNamed}
use Rattle.brc_explain.proofs.refused.shown_of.Goals as goal

pub unreachable-requires : goal.unreachable-requires
unreachable-requires c =
    subst (λ (fs : List Function). NoneNamed fs c.args.refused.now.function) c.as_slice.ensures c.in_default.ensures
    c.requires.refusal.function (c.requires.refusal.listed, c.requires.refusal.named)

pub returns : goal.returns
returns c =
    record {
      named = subst (λ (fs : List Function). IsNamed fs c.args.refused.now.function c.in-Some.function.now)
          c.as_slice.ensures c.in-Some.ensures;
      listed = c.in_ok-listing.ensures;
      leads = c.in_ok-path.ensures;
      walked = c.in_ok-steps.ensures;
    }
