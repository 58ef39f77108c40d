-- The line of a step: its number, its thread, its depth, the part that it belongs to, its rule, its word and its
-- outcomes.
use Rattle.std.specs.Prelude.{ℕ, nat_lt, if◌then◌else◌, List, [], ◌++◌, codes, decimal}
use Rattle.brc_lang.specs.declared.module.Function.{Function}
use Rattle.brc_lang.specs.Grammar.{line}
use Rattle.brc_report.specs.declared.paint.Paint.{Paint}
use Rattle.brc_report.specs.declared.paint.Role.{Role}
use Rattle.brc_report.specs.declared.paint.Role.TheVariants as roles
use Rattle.brc_report.specs.Paint.{mark_text, reset_text}
use Rattle.brc_model.specs.declared.address.Address.{Address}
use Rattle.brc_model.specs.declared.duty.Duty.{Duty}
use Rattle.brc_model.specs.declared.layout.Layout.{Layout}
use Rattle.brc_model.specs.declared.state.Exit.{Exit}
use Rattle.brc_model.specs.Trace.{is_word}
use Rattle.brc_machine.specs.declared.sight.Event.{Event}
use Rattle.brc_machine.specs.declared.sight.Event.TheVariants.{Silent, Calls, Does}
use Rattle.brc_machine.specs.declared.sight.Part.{Part}
use Rattle.brc_machine.specs.declared.sight.Part.TheVariants.{Instruction}
use Rattle.brc_trace.specs.declared.depth.Crossing.{Crossing}
use Rattle.brc_trace.specs.declared.depth.Crossing.TheVariants.{Stays, Enters, Returns}
use Rattle.brc_trace.specs.declared.entry.Entry.{Entry}
use Rattle.brc_trace.specs.Depths.{crossing_at}
use Rattle.brc_trace.specs.Outcomes.{reference_outcome, lock_outcome, phase_outcome, life_outcome, outcome_text, before_next}
use Rattle.brc_trace.specs.PartTexts.{part_text}
use Rattle.brc_trace.specs.Rules.{rule_name, rule_at}
use Rattle.brc_trace.specs.WordTexts.{word_text}

-- what separates the fields of a line
abbrev pub gap : List ℕ
gap = codes "  "

abbrev pub painted : Paint → Role → List ℕ → List ℕ
painted paint part text = mark_text paint part ++ text ++ reset_text paint

-- the word of the step; fields and resources are none
abbrev pub found_text : Paint → Layout → Duty → Address → ℕ → ℕ → List ℕ
found_text paint layout d address found left =
    if is_word address then gap ++ painted paint roles.Word (word_text layout d address found left) else []

-- what the duty brings about: of a reference, of a lock, of a state, of a life
abbrev pub duty_text : Paint → Exit → Duty → Address → ℕ → ℕ → List ℕ
duty_text paint exit d address found left =
    let reference = reference_outcome d found in
    let lock = lock_outcome d found in
    let phase = phase_outcome address found left in
    let second = before_next gap reference in
    let third = before_next second lock in
    outcome_text paint gap reference ++ outcome_text paint second lock ++ outcome_text paint third phase
    ++ outcome_text paint (before_next third phase) (life_outcome exit d found left)

abbrev pub event_text : Paint → Layout → Exit → Event → List ℕ
event_text paint layout exit Silent = []
event_text paint layout exit (Calls _) = []
event_text paint layout exit (Does d address found left) =
    found_text paint layout d address found left ++ duty_text paint exit d address found left

-- the number of the step, and its thread
unfoldable pub opening_text : Paint → ℕ → ℕ → List ℕ
opening_text paint number thread =
    painted paint roles.Aside (decimal number) ++ codes "  thread " ++ decimal thread ++ gap

-- how many calls are open at an instruction, if it isn't one of an outermost call
abbrev pub depth_text : ℕ → Part → List ℕ
depth_text depth (Instruction at) = if nat_lt 1 depth then codes "depth " ++ decimal depth ++ gap else []
depth_text depth _ = []

-- the thread returns to the call that has made this one
abbrev pub crossing_text : Paint → Crossing → List ℕ
crossing_text paint Returns = gap ++ painted paint roles.Life (codes "returns to its caller")
crossing_text paint Stays = []
crossing_text paint Enters = []

-- the depth of a called function, the part that the step belongs to, its rule, and the return to the caller
abbrev pub naming_text : Paint → List Function → Entry → List ℕ
naming_text paint functions e =
    depth_text e.doing.depth e.doing.part
    ++ painted paint roles.Part (part_text functions e.sight.function e.doing.part) ++ gap
    ++ painted paint roles.Rule (rule_name (rule_at e.thread e.sight.running e.sight.event))
    ++ crossing_text paint (crossing_at functions e.doing.depth e.sight)

unfoldable pub entry_text : Paint → List Function → Entry → List ℕ
entry_text paint functions e =
    opening_text paint e.number e.thread ++ naming_text paint functions e
    ++ line (event_text paint e.sight.layout e.sight.exit e.sight.event)
