-- Each text spells at most one module, or has at most one fault, and never both.
use Rattle.std.proofs.Common.{◌≡◌, ℕ, ◌+◌, ◌<◌, List, [], ◌++◌, length, Result, Ok, Err, refl, sym, ap, ◌∙◌, inl, inr}
use Rattle.std.specs.Prelude.{IfOk, IfErr, MatchResult}
use Rattle.std.proofs.lemmas.Bool.{lt-ltb}
use Rattle.std.proofs.lemmas.List.{append-nil}
use Rattle.brc_lang.specs.declared.module.Module.{Module}
use Rattle.brc_lang.specs.declared.fault.FaultCode.{FaultCode}
use Rattle.brc_lang.specs.declared.fault.ReadFault.{ReadFault}
use Rattle.brc_lang.specs.Grammar.{text, IsModule, Spells}
use Rattle.brc_lang.specs.Fault.{beginning, IsBeginning, line_count, HasFault, IsFaultOf, ReadsAs, Refuses}
use Rattle.brc_lang.specs.Progress.{closed}
use Rattle.brc_lang.proofs.Machine.{Answer, reading, stops, beginning_passes}

whole_beginning : (m : Module) → IsModule m → IsBeginning (closed m.version m.statics m.functions)
whole_beginning m fits = record {
  statics = fits.statics;
  most = fits.most;
  done = fits.functions;
  names = fits.names;
  calls = fits.calls;
  allowed = fits.allowed;
  open_fits = tt;
}

reads_spelled : (bytes : List ℕ) (m : Module) → Spells bytes m → reading bytes ≡ Ok m
reads_spelled bytes m h =
    let whole : bytes ≡ beginning (closed m.version m.statics m.functions) ++ [] =
    h.spelled ∙ sym (append-nil (text m)) ∙ sym (append-nil (text m ++ [])) in
    let some : 0 < length m.functions = (let fits = h.module_fits in fits.some) in
    ap reading whole ∙ beginning_passes (closed m.version m.statics m.functions) [] (whole_beginning m h.module_fits)
    ∙ rw (lt-ltb 0 (length m.functions) some) refl

reads_fault : (bytes : List ℕ) (n : ℕ) (code : FaultCode) → HasFault bytes n code → reading bytes ≡ Err (n, code)
reads_fault bytes n code (inl h) = rw (h.other, h.numbered, h.fault) refl
reads_fault bytes n code (inr h) =
    ap reading h.parts ∙ beginning_passes h.above h.rest h.above_fits
    ∙ stops (line_count (beginning h.above) + 1) h.above h.rest code h.fault ∙ rw h.numbered refl

-- ---- the laws

same_ok : (m n : Module) → ◌≡◌ {A = Answer} (Ok m) (Ok n) → m ≡ n
same_ok m n e = cc

same_err : (x y : ℕ × FaultCode) → ◌≡◌ {A = Answer} (Err x) (Err y) → x ≡ y
same_err x y e = cc

ok_no_err : (m : Module) (x : ℕ × FaultCode) → ◌≡◌ {A = Answer} (Ok m) (Err x) → ⊥
ok_no_err m x e = cc

pub one_module : (bytes : List ℕ) (m n : Module) → Spells bytes m → Spells bytes n → m ≡ n
one_module bytes m n g h = same_ok m n (sym (reads_spelled bytes m g) ∙ reads_spelled bytes n h)

pub one_fault : (bytes : List ℕ) (k l : ℕ) (c d : FaultCode) → HasFault bytes k c → HasFault bytes l d
    → (k ≡ l) × (c ≡ d)
one_fault bytes k l c d g h =
    let same = same_err (k, c) (l, d) (sym (reads_fault bytes k c g) ∙ reads_fault bytes l d h) in
    (ap (λ (x : ℕ × FaultCode). x.0) same, ap (λ (x : ℕ × FaultCode). x.1) same)

pub apart : (bytes : List ℕ) (m : Module) (n : ℕ) (code : FaultCode) → Spells bytes m → HasFault bytes n code → ⊥
apart bytes m n code g h = ok_no_err m (n, code) (sym (reads_spelled bytes m g) ∙ reads_fault bytes n code h)

pub one_text : (m n : Module) → IsModule m → IsModule n → text m ≡ text n → m ≡ n
one_text m n g h e =
    one_module (text m) m n (record { module_fits = g; spelled = refl }) (record { module_fits = h; spelled = e })

-- ---- what a reader answers

abbrev pub Answers : List ℕ → Result Module ReadFault → Type 0
Answers bytes r = MatchResult r (λ m. Spells bytes m) (λ e. IsFaultOf bytes e)

pub found : (bytes : List ℕ) (r : Result Module ReadFault) → Answers bytes r → IfOk r (λ m. Spells bytes m)
found bytes (Ok m) h = h
found bytes (Err e) h = tt

pub fault : (bytes : List ℕ) (r : Result Module ReadFault) → Answers bytes r → IfErr r (λ e. IsFaultOf bytes e)
fault bytes (Ok m) h = tt
fault bytes (Err e) h = h

pub only : (bytes : List ℕ) (r : Result Module ReadFault) → Answers bytes r → (m : Module) → Spells bytes m
    → ReadsAs r m
only bytes (Ok n) h m spells = one_module bytes n m h spells
only bytes (Err e) (inl memory) m spells = memory
only bytes (Err e) (inr has) m spells = absurd (apart bytes m e.line e.code spells has)

pub refused : (bytes : List ℕ) (r : Result Module ReadFault) → Answers bytes r → (n : ℕ) (code : FaultCode)
    → HasFault bytes n code → Refuses r n code
refused bytes (Ok m) h n code has = apart bytes m n code h has
refused bytes (Err e) (inl memory) n code has = inr memory
refused bytes (Err e) (inr other) n code has = inl (one_fault bytes e.line n e.code code other has)
