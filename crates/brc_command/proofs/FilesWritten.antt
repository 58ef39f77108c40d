-- What is written of several files, from what is written of each.
use Rattle.std.proofs.Common.{◌≡◌, ◌≢◌, ◌⊎◌, ℕ, ◌+◌, ◌<◌, max, Bool, List, [], ◌∷◌, ◌++◌, map, length, take, get_or, Option}
use Rattle.std.proofs.Common.{flat_map, inl, inr, refl, sym, ap, ◌∙◌, subst, append-nil, arith}
use Rattle.std.specs.Borrow.{Bor}
use Rattle.std.specs.Io.KnownBytes.{Appends}
use Rattle.std.specs.List.{AllByRecursion}
use Rattle.std.proofs.lemmas.Grind.{flat_map-append}
use Rattle.std.proofs.lemmas.List.{map-append, map_more}
use Rattle.brc_lang.specs.Written.{AppendsBeginning}
use Rattle.brc_command.specs.declared.step_fault.StepFault.TheVariants.{Text, Plan, Refused, NoFunction, NoMemory}
use Rattle.brc_command.specs.declared.step_fault.StepFault.TheVariants.{Output}
use Rattle.brc_command.specs.declared.stop.Stop.{Stop}
use Rattle.brc_command.specs.declared.stop.Stop.TheVariants.{UnreadableFile, NoFunction as Unknown, NoThread, Fault}
use Rattle.brc_command.specs.Commands.{Reports, LeavesReport}
use Rattle.brc_command.specs.Files.{Outcome, prefix, IsStoppedAt, IsWritten, AreWritten, greatest}
use Rattle.brc_command.specs.Files.{AreRefusalLinesOf, IsRefusedIn}
use Rattle.brc_command.specs.Lines.{stop_text, stop_status}
use Rattle.brc_command.proofs.Writing.{both_written, nothing_written}

-- ---- one file

is_output : (stop : Stop) → (stop ≡ Fault Output) ⊎ (stop ≢ Fault Output)
is_output UnreadableFile = inr (λ e. absurd cc)
is_output (Unknown name) = inr (λ e. absurd cc)
is_output NoThread = inr (λ e. absurd cc)
is_output (Fault (Text e)) = inr (λ e. absurd cc)
is_output (Fault (Plan e)) = inr (λ e. absurd cc)
is_output (Fault (Refused r)) = inr (λ e. absurd cc)
is_output (Fault (NoFunction name)) = inr (λ e. absurd cc)
is_output (Fault NoMemory) = inr (λ e. absurd cc)
is_output (Fault Output) = inl refl

module _ (file : List ℕ) (old new err_old err_new : Option (List ℕ)) (is_report : List ℕ → Type 0)
    (is_outcome : Outcome → Type 0) where
  -- the report is written
  pub reported : (status : ℕ)
      → ((report : List ℕ) → is_report report
      → is_outcome (record { file = file; report = report; line = []; status = status }))
      → Reports is_report old new → err_new ≡ err_old → IsWritten is_outcome file old new err_old err_new status
  reported status outcome whole silent = record {
    outcome = record { file = file; report = whole.0; line = []; status = status };
    same_file = refl;
    is = outcome whole.0 whole.1;
    reported = whole.2;
    lines = subst (λ (o : Option (List ℕ)). Appends err_old o []) (sym silent) (nothing_written err_old);
    same_status = refl;
  }

  -- a reason's line is written
  pub stopped : (named : Bool) (is_reason : Stop → Type 0) (stop : Stop)
      → ((report text : List ℕ)
      → IsStoppedAt named is_reason is_report (record {
        file = file;
        report = report;
        line = text;
        status = stop_status stop;
      })
      → is_outcome (record { file = file; report = report; line = text; status = stop_status stop }))
      → is_reason stop → LeavesReport is_report stop old new
      → AppendsBeginning err_old err_new (prefix named file ++ stop_text stop)
      → IsWritten is_outcome file old new err_old err_new (stop_status stop)
  stopped named is_reason stop outcome reason left line = elim (is_output stop) [
    | inl output ↦
        let begun = left.begun output in record {
          outcome = record {
            file = file;
            report = begun.2.front;
            line = line.front;
            status = stop_status stop;
          };
          same_file = refl;
          is = outcome begun.2.front line.front (record {
            stop = stop;
            reason = reason;
            same_status = refl;
            line = (line.rest, line.parts);
            unwritten = λ other. absurd (other output);
            begun = λ _. (begun.0, begun.1, (begun.2.rest, begun.2.parts));
          });
          reported = begun.2.appended;
          lines = line.appended;
          same_status = refl;
        }
    | inr other ↦ record {
      outcome = record { file = file; report = []; line = line.front; status = stop_status stop };
      same_file = refl;
      is = outcome [] line.front (record {
        stop = stop;
        reason = reason;
        same_status = refl;
        line = (line.rest, line.parts);
        unwritten = λ _. refl;
        begun = λ output. absurd (other output);
      });
      reported = subst (λ (o : Option (List ℕ)). Appends old o []) (sym (left.unwritten other)) (nothing_written old);
      lines = line.appended;
      same_status = refl;
    }
  ]

  -- the lines of refusals are written
  pub refused : (gives : List ℕ → List ℕ → Type 0) (named : Bool) (text : List ℕ)
      → ((line : List ℕ)
      → IsRefusedIn gives named (record { file = file; report = []; line = line; status = 1 })
      → is_outcome (record { file = file; report = []; line = line; status = 1 }))
      → AreRefusalLinesOf gives named file text → new ≡ old → AppendsBeginning err_old err_new text
      → IsWritten is_outcome file old new err_old err_new 1
  refused gives named text outcome lines unwritten begun = record {
    outcome = record { file = file; report = []; line = begun.front; status = 1 };
    same_file = refl;
    is = outcome begun.front (record {
      text = text;
      lines = lines;
      same_status = refl;
      line = (begun.rest, begun.parts);
      unwritten = refl;
    });
    reported = subst (λ (o : Option (List ℕ)). Appends old o []) (sym unwritten) (nothing_written old);
    lines = begun.appended;
    same_status = refl;
  }

-- what is written fits a wider outcome, too
pub widened : (P Q : Outcome → Type 0) (file : List ℕ) (old new err_old err_new : Option (List ℕ)) (status : ℕ)
    → ((o : Outcome) → P o → Q o) → IsWritten P file old new err_old err_new status
    → IsWritten Q file old new err_old err_new status
widened P Q file old new err_old err_new status wider written = record {
  outcome = written.outcome;
  same_file = written.same_file;
  is = wider written.outcome written.is;
  reported = written.reported;
  lines = written.lines;
  same_status = written.same_status;
}

-- ---- all files

all_push : (P : Outcome → Type 0) (os : List Outcome) (o : Outcome) → AllByRecursion P os → P o
    → AllByRecursion P (os ++ o ∷ [])
all_push P [] o all here = (here, tt)
all_push P (p ∷ os) o all here = (all.0, all_push P os o all.1 here)

greatest_push : (statuses : List ℕ) (status : ℕ) → greatest (statuses ++ status ∷ []) ≡ max (greatest statuses) status
greatest_push [] status = omega arith
greatest_push (s ∷ statuses) status = let rest = greatest_push statuses status in omega (arith, rest)

-- the bytes of one outcome more
bytes_push : (bytes_of : Outcome → List ℕ) (os : List Outcome) (o : Outcome) (old mid new : Option (List ℕ))
    → Appends old mid (flat_map bytes_of os) → Appends mid new (bytes_of o)
    → Appends old new (flat_map bytes_of (os ++ o ∷ []))
bytes_push bytes_of os o old mid new before more =
    let last : flat_map bytes_of (o ∷ []) ≡ bytes_of o = append-nil (bytes_of o) in
    subst (Appends old new) (sym (flat_map-append bytes_of os (o ∷ []) ∙ ap (λ l. flat_map bytes_of os ++ l) last))
    (both_written old mid new (flat_map bytes_of os) (bytes_of o) before more)

pub none_written : (P : Outcome → Type 0) (old err_old : Option (List ℕ)) → AreWritten P [] old old err_old err_old 0
none_written P old err_old = record {
  outcomes = [];
  one_each = refl;
  each = tt;
  reported = nothing_written old;
  lines = nothing_written err_old;
  same_status = refl;
}

one_more : (P : Outcome → Type 0) (files : List (List ℕ)) (file : List ℕ)
    (old mid new err_old err_mid err_new : Option (List ℕ)) (before status : ℕ)
    → AreWritten P files old mid err_old err_mid before → IsWritten P file mid new err_mid err_new status
    → AreWritten P (files ++ file ∷ []) old new err_old err_new (max before status)
one_more P files file old mid new err_old err_mid err_new before status all more = record {
  outcomes = all.outcomes ++ more.outcome ∷ [];
  one_each = map-append (λ (o : Outcome). o.file) all.outcomes (more.outcome ∷ [])
      ∙ ap (λ l. l ++ more.outcome.file ∷ []) all.one_each ∙ ap (λ f. files ++ f ∷ []) more.same_file;
  each = all_push P all.outcomes more.outcome all.each more.is;
  reported = bytes_push (λ o. o.report) all.outcomes more.outcome old mid new all.reported more.reported;
  lines = bytes_push (λ o. o.line) all.outcomes more.outcome err_old err_mid err_new all.lines more.lines;
  same_status = ap (max before) (sym more.same_status) ∙ ap (λ s. max s more.outcome.status) all.same_status
      ∙ sym (greatest_push (map (λ (o : Outcome). o.status) all.outcomes) more.outcome.status)
      ∙ ap greatest (sym (map-append (λ (o : Outcome). o.status) all.outcomes (more.outcome ∷ [])));
}

-- a further file of a list
pub next_file : (P : Outcome → Type 0) (files : List (Bor (List ℕ))) (i : ℕ) (d : Bor (List ℕ))
    (old mid new err_old err_mid err_new : Option (List ℕ)) (before status : ℕ) → i < length files
    → AreWritten P (map (λ (f : Bor (List ℕ)). f.now) (take i files)) old mid err_old err_mid before
    → IsWritten P (get_or files i d).now mid new err_mid err_new status
    → AreWritten P (map (λ (f : Bor (List ℕ)). f.now) (take (i + 1) files)) old new err_old err_new (max before status)
next_file P files i d old mid new err_old err_mid err_new before status inside all more =
    rw (map_more (λ (f : Bor (List ℕ)). f.now) files i d inside)
    (one_more P (map (λ (f : Bor (List ℕ)). f.now) (take i files)) (get_or files i d).now old mid new err_old err_mid
    err_new before status all more)
