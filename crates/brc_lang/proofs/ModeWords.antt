-- The word of a mode is read as the mode, and no other word is.
use Rattle.std.proofs.Common.{◌≡◌, ℕ, ◌+◌, true, List, Result, Ok, Err, refl, sym, ap, subst, inl, inr}
use Rattle.std.specs.Prelude.{codes}
use Rattle.std.specs.Str.{bytes_eq}
use Rattle.std.proofs.lemmas.Bool.{cases_eq, ne_eqb}
use Rattle.brc_lang.specs.declared.mode.Mode.{Mode}
use Rattle.brc_lang.specs.declared.fault.FaultCode.{FaultCode}
use Rattle.brc_lang.specs.declared.fault.FaultCode.TheVariants.{UnknownWord}
use Rattle.brc_lang.specs.InstructionWords.{mode_in}
use Rattle.brc_lang.specs.Modes.{reads, writes, creates, mode_of, mode_name, IsMode}
use Rattle.brc_lang.specs.RoundTrips.{IsPlain}
use Rattle.brc_lang.proofs.Tests.{either_way, same_text}
use Rattle.brc_lang.proofs.Spelling.{ok_is}

abbrev pub NamesMode : List ℕ → Mode → Type 0
NamesMode word m = (word ≡ mode_name m) × IsMode m

mode_named : (word : List ℕ) (here m : Mode) → IsMode here → bytes_eq word (mode_name here) ≡ true
    → ◌≡◌ {A = Result Mode FaultCode} (Ok here) (Ok m) → NamesMode word m
mode_named word here m named same e =
    subst (NamesMode word) (ok_is here m e) (same_text word (mode_name here) same, named)

pub mode_spelled : (word : List ℕ) (m : Mode) → mode_in word ≡ Ok m → NamesMode word m
mode_spelled word m read =
    either_way (bytes_eq word (codes "r")) _ _ (Ok m) read (mode_named word (mode_of reads) m (λ e. cc))
    (λ not_r.
    either_way (bytes_eq word (codes "w")) _ _ (Ok m) not_r (mode_named word (mode_of writes) m (λ e. cc))
    (λ not_w.
    either_way (bytes_eq word (codes "rw")) _ _ (Ok m) not_w (mode_named word (mode_of (reads + writes)) m (λ e. cc))
    (λ not_rw.
    either_way (bytes_eq word (codes "wc")) _ _ (Ok m) not_rw
    (mode_named word (mode_of (writes + creates)) m (λ e. cc))
    (λ not_wc.
    either_way (bytes_eq word (codes "rwc")) _ (Err UnknownWord) (Ok m) not_wc
    (mode_named word (mode_of (reads + writes + creates)) m (λ e. cc)) (λ never. absurd cc)))))

-- what holds for each of the five modes that have a word
each_mode : (P : Mode → Type 0) → P (mode_of reads) → P (mode_of writes) → P (mode_of (reads + writes))
    → P (mode_of (writes + creates)) → P (mode_of (reads + writes + creates)) → (m : Mode) → IsMode m → P m
each_mode P r w rw_ wc rwc m named =
    elim (cases_eq m.0 reads) [
      | inl same ↦ subst P (ap mode_of (sym same)) r
      | inr not_r ↦ elim (cases_eq m.0 writes) [
        | inl same ↦ subst P (ap mode_of (sym same)) w
        | inr not_w ↦ elim (cases_eq m.0 (reads + writes)) [
          | inl same ↦ subst P (ap mode_of (sym same)) rw_
          | inr not_rw ↦ elim (cases_eq m.0 (writes + creates)) [
            | inl same ↦ subst P (ap mode_of (sym same)) wc
            | inr not_wc ↦ elim (cases_eq m.0 (reads + writes + creates)) [
              | inl same ↦ subst P (ap mode_of (sym same)) rwc
              | inr not_rwc ↦
                  absurd (named (rw (
                    ne_eqb m.0 reads not_r,
                    ne_eqb m.0 writes not_w,
                    ne_eqb m.0 (reads + writes) not_rw,
                    ne_eqb m.0 (writes + creates) not_wc,
                    ne_eqb m.0 (reads + writes + creates) not_rwc,
                  ) refl))
            ]
          ]
        ]
      ]
    ]

pub mode_again : (m : Mode) → IsMode m → mode_in (mode_name m) ≡ Ok m
mode_again = each_mode (λ m. mode_in (mode_name m) ≡ Ok m) refl refl refl refl refl

pub mode_plain : (m : Mode) → IsMode m → IsPlain (mode_name m)
mode_plain = each_mode (λ m. IsPlain (mode_name m)) (refl, refl) (refl, refl) (refl, refl) (refl, refl) (refl, refl)
