-- What a further step of a path reports.
use Rattle.std.proofs.Common.{◌≡◌, ◌≢◌, ℕ, List, [], ◌∷◌, ◌++◌, refl, sym, ap, ◌∙◌, inl, inr}
use Rattle.std.proofs.lemmas.List.Sums.{fold-append}
use Rattle.brc_lang.specs.declared.check_code.CheckCode.{CheckCode}
use Rattle.brc_lang.specs.declared.check_code.CheckCode.TheVariants.{StatesDiffer}
use Rattle.brc_lang.specs.declared.module.Function.{Function}
use Rattle.brc_model.specs.declared.state.State.{State}
use Rattle.brc_model.specs.declared.state.Exit.{Exit}
use Rattle.brc_model.specs.SlotStates.{entry_of}
use Rattle.brc_model.specs.Paths.{PathEnd, At, Reports, follow, path_end}
use Rattle.brc_model.specs.Tables.{Reaches}
use Rattle.brc_check.specs.Refusal.{IsReported}

one_more : (f : Function) (at : ℕ) (s : State) (exit : Exit) (end : PathEnd) (r : Reaches f at s)
    → follow f.code (At at s) exit ≡ end → path_end f (r.exits ++ exit ∷ []) ≡ end
one_more f at s exit end r leads =
    fold-append (follow f.code) (At 0 (entry_of f.parameters)) r.exits (exit ∷ [])
    ∙ ap (λ (p : PathEnd). follow f.code p exit) r.reaches ∙ leads

-- an instruction reports a code in a state in which a path reaches it
pub code_reported : (f : Function) (at : ℕ) (s : State) (exit : Exit) (c : CheckCode) → Reaches f at s
    → follow f.code (At at s) exit ≡ Reports at c → IsReported f at c
code_reported f at s exit c r reports =
    inl (record { exits = r.exits ++ exit ∷ []; reports = one_more f at s exit (Reports at c) r reports })

-- a step leads to a point in another state than the one in which a path reaches it
pub differ_there : (f : Function) (at next : ℕ) (s arriving first : State) (exit : Exit) → Reaches f at s
    → Reaches f next first → follow f.code (At at s) exit ≡ At next arriving → first ≢ arriving
    → IsReported f next StatesDiffer
differ_there f at next s arriving first exit r there leads apart =
    inr (
      refl,
      record {
        one = first;
        other = arriving;
        first = there;
        second = record {
          exits = r.exits ++ exit ∷ [];
          reaches = one_more f at s exit (At next arriving) r leads;
        };
        apart = apart;
      },
    )
