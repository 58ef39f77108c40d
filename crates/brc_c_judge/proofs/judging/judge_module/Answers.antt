use Rattle.std.proofs.Common.{◌≡◌, ℕ, List, sym, ap, subst, inl, inr}
use Rattle.std.specs.Prelude.{Ok}
use Rattle.brc_lang.specs.declared.module.Function.{Function}
use Rattle.brc_check.specs.declared.refused.Refused.{Refused}
use Rattle.brc_check.specs.Refusal.{IsReported, IsRefusedFor, IsForMemory, IsRefusal}
use Rattle.brc_model.specs.Paths.{IsAcceptable}
use Rattle.brc_c_outline.specs.Outlines.{Shows}
use Rattle.brc_c_judge.proofs.judging.judge_module.Goals as goal

for_code : (functions : List Function) (r : Refused) → (IsForMemory r → ⊥) → IsRefusal functions r
    → IsRefusedFor functions r
for_code functions r other (inl memory) = absurd (other memory)
for_code functions r other (inr it) = it

pub returns-in-Ok : goal.returns-in-Ok
returns-in-Ok c =
    let shown : Shows c.args.spelled c.args.outline.now = c.in_ok-shows.ensures (ap Ok c.if-not-branch.false) in
    record {
      accepted =
          record {
            «module» = c.args.spelled;
            spelled = c.requires;
            acceptable = c.in-Ok.ensures.acceptable;
            safe = c.in-Ok.ensures.safe;
          };
      shows = shown;
      unbroken = c.accepted_is_unbroken.ensures c.args.spelled c.args.outline.now shown c.in-Ok.ensures.acceptable;
    }

pub returns-in_default : goal.returns-in_default
returns-in_default c accepted =
    let same : accepted.«module» ≡ c.args.spelled =
    c.one_reading.ensures.one_module c.args.text.now accepted.«module» c.args.spelled accepted.spelled c.requires
    in
    c.is_for_memory.ensures c.if-is_for_memory.false
    (c.in-Err.ensures.complete (subst IsAcceptable same accepted.acceptable))

pub returns-else-is_reported : goal.returns-else-is_reported
returns-else-is_reported c accepted =
    let same : accepted.«module» ≡ c.args.spelled =
    c.one_reading.ensures.one_module c.args.text.now accepted.«module» c.args.spelled accepted.spelled c.requires
    in
    c.is_for_memory.ensures c.if-is_for_memory.false
    (c.in-Err.ensures.complete (subst IsAcceptable same accepted.acceptable))

pub returns-then-branch : goal.returns-then-branch
returns-then-branch c =
    let same = c.is_reported.ensures c.if-is_reported.true in
    let refused : IsRefusedFor c.args.spelled.functions c.in-Err.refused =
    for_code c.args.spelled.functions c.in-Err.refused (c.is_for_memory.ensures c.if-is_for_memory.false)
    c.in-Err.ensures.refused
    in (
      c.in-Some.is,
      record {
        «module» = c.args.spelled;
        spelled = c.requires;
        shows = c.in_ok-shows.ensures (ap Ok c.if-not-branch.false);
        broken = c.in_ok-breaks_just.ensures.broken (ap Ok c.if-branch.true);
        only = c.in_ok-breaks_just.ensures.only (ap Ok c.if-branch.true);
        function = refused.function;
        listed = refused.listed;
        reported = subst (IsReported refused.function c.in-Some.claim.at) (sym same.1)
            (subst (λ (at : ℕ). IsReported refused.function at c.in-Err.refused.code) (sym same.0) refused.reported);
      },
    )
