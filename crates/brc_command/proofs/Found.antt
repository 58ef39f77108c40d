-- What is found of the bytes that were read of a file is found of the file, and where a refusal is.
use Rattle.std.proofs.Common.{◌≡◌, ℕ, ◌<◌, ◌≤◌, ◌*◌, Bool, true, false, cond, List, [], ◌∷◌, length, take, fold, Option}
use Rattle.std.proofs.Common.{Some, None, inl, inr, refl, subst, arith}
use Rattle.std.specs.Prelude.{◌+◌, nat_lt, slice_get, position}
use Rattle.std.specs.List.{position_or_len}
use Rattle.std.proofs.lemmas.Bool.{ltb-true}
use Rattle.std.proofs.lemmas.List.Elements.{All-from_recursion}
use Rattle.std.proofs.lemmas.List.Sums.{sum_by-take-le}
use Rattle.brc_lang.specs.declared.check_code.CheckCode.{CheckCode}
use Rattle.brc_lang.specs.declared.check_code.CheckCode.TheVariants.{RunsOff}
use Rattle.brc_lang.specs.declared.module.Function.{Function}
use Rattle.brc_lang.specs.declared.module.Instr.{Instr}
use Rattle.brc_lang.specs.declared.module.Module.{Module}
use Rattle.brc_lang.specs.declared.version.Version.{Version}
use Rattle.brc_lang.specs.declared.version.Version.TheVariants as versions
use Rattle.brc_lang.specs.Grammar.{most_statics, IsFunction, IsModule, Spells}
use Rattle.brc_lang.specs.Limits.{function_limit, instruction_limit, static_limit}
use Rattle.brc_model.specs.declared.state.Exit.{Exit}
use Rattle.brc_model.specs.declared.state.State.{State}
use Rattle.brc_model.specs.Paths.{PathEnd, At, Ended, Reports, arrives, unless_reported, passes, follow}
use Rattle.brc_model.specs.SlotStates.{lowest, after, target, entry_of}
use Rattle.brc_check.specs.declared.refused.Refused.{Refused as Refusal}
use Rattle.brc_check.specs.Refusal.{IsReported, IsRefusedFor}
use Rattle.brc_command.specs.declared.finding.Finding.{Finding}
use Rattle.brc_command.specs.declared.finding.Finding.TheVariants.{Accepted, Refused as IsRefused, Unreadable, Stopped}
use Rattle.brc_command.specs.declared.load.LoadError.{LoadError}
use Rattle.brc_command.specs.declared.load.LoadError.TheVariants as loads
use Rattle.brc_command.specs.declared.step_fault.StepFault.{StepFault}
use Rattle.brc_command.specs.declared.step_fault.StepFault.TheVariants.{Text, Plan, Refused, NoFunction, NoMemory}
use Rattle.brc_command.specs.declared.step_fault.StepFault.TheVariants.{Output}
use Rattle.brc_command.specs.declared.stop.Stop.{Stop}
use Rattle.brc_command.specs.declared.stop.Stop.TheVariants.{UnreadableFile, NoFunction as Unknown, NoThread, Fault}
use Rattle.brc_command.specs.Accepted.{instruction_count}
use Rattle.brc_command.specs.Calls.{is_named}
use Rattle.brc_command.specs.Explanations.{IsUnknownIn}
use Rattle.brc_command.specs.Findings.{HasOnlyIn, IsUnknown, IsFoundIn, IsFinding}
use Rattle.brc_command.specs.Lines.{stop_of}
use Rattle.brc_command.specs.Loading.{ReadsAsModule}
use Rattle.brc_command.specs.Texts.{IsTextFault}
use Rattle.brc_command.proofs.Accepting.{most_instructions}
use Rattle.brc_command.proofs.Calling.{found_at}

-- ---- the file

module _ (gives : List ℕ → List ℕ → Type 0) (lacks : List ℕ → Type 0) (file bytes : List ℕ) (only : Option (List ℕ))
    (read : ReadsAsModule gives file bytes) where
  has_only : HasOnlyIn bytes only → HasOnlyIn read.text only
  has_only has = (has.0, read.spelled has.0 has.1, has.2)

  pub found : (finding : Finding) → IsFoundIn bytes only finding → IsFinding gives lacks file only finding
  found Accepted is = (
    read.text,
    read.given,
    (
      (is.0.0, record { spelled = read.spelled is.0.0 is.0.1.spelled; accepted = is.0.1.accepted }),
      has_only is.1,
    ),
  )
  found (IsRefused located) is = (
    read.text,
    read.given,
    (
      record {
        m = is.0.m;
        spelled = read.spelled is.0.m is.0.spelled;
        refusal = is.0.refusal;
        line = is.0.line;
        steps = is.0.steps;
        others = is.0.others;
      },
      has_only is.1,
    ),
  )
  found (Unreadable unread) is =
      (read.text, read.given, read.faulty unread.fault.line unread.fault.code is)
  found (Stopped UnreadableFile) is = absurd is
  found (Stopped (Unknown name)) is =
      (read.text, read.given, (is.0, (is.1.0, read.spelled is.1.0 is.1.1, is.1.2)))
  found (Stopped NoThread) is = absurd is
  found (Stopped (Fault (Text e))) is = (read.text, read.given, read.faulty e.line e.code is)
  found (Stopped (Fault (Plan e))) is = absurd is
  found (Stopped (Fault (Refused r))) is = absurd is
  found (Stopped (Fault (NoFunction name))) is = absurd is
  found (Stopped (Fault NoMemory)) is = tt
  found (Stopped (Fault Output)) is = absurd is

-- ---- why nothing is known

pub not_loaded : (gives : List ℕ → List ℕ → Type 0) (lacks : List ℕ → Type 0) (file : List ℕ) (only : Option (List ℕ))
    (e : LoadError) → (e ≡ loads.Unreadable → lacks file) → IsFinding gives lacks file only (Stopped (stop_of e))
not_loaded gives lacks file only loads.Unreadable lacking = lacking refl
not_loaded gives lacks file only loads.NoMemory lacking = tt

pub not_read : (bytes : List ℕ) (only : Option (List ℕ)) (e : StepFault) → IsTextFault bytes e
    → IsUnknown bytes only (Fault e)
not_read bytes only (Text e) fault = fault
not_read bytes only (Plan e) fault = absurd fault
not_read bytes only (Refused r) fault = absurd fault
not_read bytes only (NoFunction name) fault = absurd fault
not_read bytes only NoMemory fault = tt
not_read bytes only Output fault = absurd fault

pub not_there : (bytes : List ℕ) (only : Option (List ℕ)) (m : Module) (stop : Stop) → Spells bytes m
    → IsUnknownIn m only stop → IsUnknown bytes only stop
not_there bytes only m UnreadableFile spelled is = absurd is
not_there bytes only m (Unknown name) spelled is = (is.0, (m, spelled, is.1))
not_there bytes only m NoThread spelled is = absurd is
not_there bytes only m (Fault e) spelled is = absurd is

-- ---- the point at fault

-- the end of a path is a point of the code, or a code reported at one
abbrev IsInside : List Instr → PathEnd → Type 0
IsInside code (At at s) = at < length code
IsInside code Ended = Unit {0}
IsInside code (Reports at c) = at < length code

inside_unless : (code : List Instr) (at : ℕ) (o : Option CheckCode) (p : PathEnd) → at < length code → IsInside code p
    → IsInside code (unless_reported at o p)
inside_unless code at None p inside h = h
inside_unless code at (Some c) p inside h = inside

inside_cond : (code : List Instr) (at next : ℕ) (s : State) (b : Bool) → at < length code
    → nat_lt next (length code) ≡ b → IsInside code (cond b (At next s) (Reports at RunsOff))
inside_cond code at next s true inside e = ltb-true next (length code) e
inside_cond code at next s false inside e = inside

inside_arrives : (code : List Instr) (at : ℕ) (o : Option ℕ) (s : State) → at < length code
    → IsInside code (arrives code at o s)
inside_arrives code at None s inside = tt
inside_arrives code at (Some next) s inside = inside_cond code at next s (nat_lt next (length code)) inside refl

inside_passes : (code : List Instr) (at : ℕ) (o : Option Instr) (exit : Exit) (s : State) → at < length code
    → IsInside code (passes code at o exit s)
inside_passes code at None exit s inside = inside
inside_passes code at (Some i) exit s inside =
    inside_unless code at (lowest i s) (arrives code at (target i exit at) (after i exit s)) inside
    (inside_arrives code at (target i exit at) (after i exit s) inside)

inside_follow : (code : List Instr) (p : PathEnd) (exit : Exit) → IsInside code p → IsInside code (follow code p exit)
inside_follow code (At at s) exit inside = inside_passes code at (slice_get code at) exit s inside
inside_follow code Ended exit inside = tt
inside_follow code (Reports at c) exit inside = inside

inside_path : (code : List Instr) (p : PathEnd) (exits : List Exit) → IsInside code p
    → IsInside code (fold (follow code) p exits)
inside_path code p [] inside = inside
inside_path code p (exit ∷ exits) inside =
    inside_path code (follow code p exit) exits (inside_follow code p exit inside)

reported_inside : (f : Function) (at : ℕ) (c : CheckCode) → 0 < length f.code → IsReported f at c
    → at < length f.code
reported_inside f at c some (inl reports) =
    subst (IsInside f.code) reports.reports (inside_path f.code (At 0 (entry_of f.parameters)) reports.exits some)
reported_inside f at c some (inr differ) =
    let first = differ.1.first in
    subst (IsInside f.code) first.reaches (inside_path f.code (At 0 (entry_of f.parameters)) first.exits some)

pub most_points : (m : Module) (r : Refusal) → IsModule m → IsRefusedFor m.functions r → r.at < instruction_limit
most_points m r fits refused =
    let at = refused.listed in
    let function : IsFunction refused.function =
    subst IsFunction at.2 (All-from_recursion IsFunction m.functions fits.functions at.0 refused.function at.1) in
    let inside = reported_inside refused.function r.at r.code function.some refused.reported in
    let most = function.most in
    omega (arith, inside, most)

-- the instructions of the first functions
pub most_above : (m : Module) (i : ℕ) → IsModule m
    → instruction_count (take i m.functions) ≤ function_limit * instruction_limit
most_above m i fits =
    let few = sum_by-take-le (λ (f : Function). length f.code) m.functions i in
    let most = most_instructions m fits in
    omega (arith, few, most)

-- A module of any version has 16 static lines at most.
few_statics : (v : Version) → most_statics v ≤ static_limit
few_statics versions.One = omega arith
few_statics versions.Two = omega arith
few_statics versions.Three = omega arith

-- the sum that gives a line
pub few_lines : (m : Module) (r : Refusal) (number : ℕ) → IsModule m → IsRefusedFor m.functions r
    → position (is_named r.function) m.functions ≡ Some number
    → length m.statics + instruction_count (take number m.functions) + 2 * number + r.at + 3 ≤ 20000
few_lines m r number fits refused found =
    let there = found_at (is_named r.function) m.functions number found in
    let inside : position_or_len (is_named r.function) m.functions < length m.functions = there.0 in
    let same : position_or_len (is_named r.function) m.functions ≡ number = there.1 in
    let few : length m.functions ≤ function_limit = fits.most in
    let above = most_above m number fits in
    let at = most_points m r fits refused in
    let lines : length m.statics ≤ most_statics m.version = fits.statics.most in
    let most = few_statics m.version in
    omega (arith, inside, same, few, above, at, lines, most)
