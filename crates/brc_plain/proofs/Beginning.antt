-- The first machine is the model's.
use Rattle.std.proofs.Common.{◌≡◌, ℕ, ◌+◌, ◌*◌, ◌≤◌, List, ◌∷◌, length, map, refl, arith}
use Rattle.std.proofs.Math.Nat.{mul-le-mul}
use Rattle.brc_lang.specs.declared.module.Module.{Module}
use Rattle.brc_lang.specs.Grammar.{IsModule}
use Rattle.brc_model.specs.declared.address.Address.{Address}
use Rattle.brc_model.specs.declared.layout.Layout.{Layout}
use Rattle.brc_model.specs.declared.thread.Call.{Call}
use Rattle.brc_model.specs.AbstractState.{AbstractState}
use Rattle.brc_model.specs.Action.{StepActor}
use Rattle.brc_model.specs.FirstRows.{HasLines, first_life}
use Rattle.brc_model.specs.Layout.{row_count}
use Rattle.brc_model.specs.Limits.{row_limit, total_limit, worker_limit}
use Rattle.brc_model.specs.Machine.{Life}
use Rattle.brc_model.specs.StepMachine.{first_abstract, first_memory, layout_of, main_actor, worker_actor}
use Rattle.brc_model.proofs.Keeping.FirstMachine.{has_lines}
use Rattle.brc_effect.proofs.FewNumbers.{few_numbers}
use Rattle.brc_plain.specs.Begun.{begun, no_states}

-- The machine's rows are few.
pub few_rows : (m : Module) (workers rows : ℕ) → IsModule m → workers ≤ worker_limit → rows ≤ row_limit
    → row_count (layout_of m workers rows) ≤ total_limit
few_rows m workers rows fits few each =
    let has = has_lines m workers rows fits in
    let all : workers * rows ≤ worker_limit * row_limit =
    mul-le-mul {n₂ = worker_limit} {m₂ = row_limit} few each in
    omega (arith, has.few, few_numbers m workers rows has, all)

-- The same of the layout that the code makes, which has the module's lines.
pub few_rows_of : (m : Module) (layout : Layout) (workers rows : ℕ) → IsModule m → workers ≤ worker_limit
    → rows ≤ row_limit → layout ≡ layout_of m workers rows → row_count layout ≤ total_limit
few_rows_of m layout workers rows fits few each is = rw is (few_rows m workers rows fits few each)

pub lines_of : (m : Module) (layout : Layout) (workers rows : ℕ) → IsModule m → layout ≡ layout_of m workers rows
    → HasLines m.statics layout
lines_of m layout workers rows fits is = rw is (has_lines m workers rows fits)

-- What is made of the layout is the model's first machine.
pub first_is : (m : Module) (rows workers callers : ℕ) (calls : List Call) (layout blocks : Layout)
    (memory : Address → ℕ) (actors : List StepActor) (abstract : AbstractState) (life : ℕ → Life)
    → workers ≡ length calls → callers ≡ 1 + workers → layout ≡ layout_of m workers rows → blocks ≡ layout
    → memory ≡ first_memory m.statics layout → actors ≡ main_actor layout ∷ map worker_actor calls
    → abstract ≡ first_abstract m.statics layout callers → life ≡ first_life layout
    → begun m rows calls ≡ record {
      functions = m.functions;
      states = no_states;
      layout = blocks;
      memory = memory;
      actors = actors;
      abstract = abstract;
      life = life;
      host_faults = 0;
      close_faults = 0;
    }
first_is m rows workers callers calls layout blocks memory actors abstract life each all is same words threads bag
    lives =
    rw (words, threads, bag, lives, same, is, all, each) refl
