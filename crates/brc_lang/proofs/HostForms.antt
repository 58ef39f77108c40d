-- The operands of the instructions that ask the host: words that are read as operands are their spelling.
use Rattle.std.proofs.Common.{◌≡◌, ℕ, ◌<◌, List, [], ◌∷◌, Ok, Err, refl, subst}
use Rattle.std.specs.Prelude.{codes}
use Rattle.std.specs.Fmt.{decimal}
use Rattle.std.specs.Str.{bytes_eq}
use Rattle.brc_lang.specs.declared.mode.Mode.{Mode}
use Rattle.brc_lang.specs.declared.fault.FaultCode.TheVariants.{UnknownWord}
use Rattle.brc_lang.specs.Grammar.{variable, target}
use Rattle.brc_lang.specs.InstructionWords.{number_in, variable_in, target_in, mode_in, open_in, pair_in}
use Rattle.brc_lang.specs.Limits.{variable_count, target_count, path_count, last_path}
use Rattle.brc_lang.specs.Modes.{mode_name, IsMode}
use Rattle.brc_lang.proofs.Tests.{either_way}
use Rattle.brc_lang.proofs.Spelling.{bind_ok, ok_is, variable_spelled, variable_again, variable_plain, target_spelled}
use Rattle.brc_lang.proofs.Spelling.{target_again, target_plain, path_spelled, path_again, path_plain}
use Rattle.brc_lang.proofs.ModeWords.{mode_spelled, mode_again, mode_plain}
use Rattle.brc_lang.proofs.OperandForms.{both_same, else_spelled, IsSpelled, Form}

-- ---- a variable, a path, a mode, `else` and a target

abbrev pub open_words : ℕ × ℕ × Mode × ℕ → List (List ℕ)
open_words v = variable v.0 ∷ decimal v.1 ∷ mode_name v.2 ∷ codes "else" ∷ target v.3 ∷ []

abbrev pub AreOpening : ℕ × ℕ × Mode × ℕ → Type 0
AreOpening v = (v.0 < variable_count) × (v.1 < path_count) × IsMode v.2 × (v.3 < target_count)

pub open_spelled : (ws : List (List ℕ)) (v : ℕ × ℕ × Mode × ℕ) → open_in ws ≡ Ok v
    → IsSpelled open_words AreOpening ws v
open_spelled [] v e = absurd cc
open_spelled (a ∷ []) v e = absurd cc
open_spelled (a ∷ b ∷ []) v e = absurd cc
open_spelled (a ∷ b ∷ c ∷ []) v e = absurd cc
open_spelled (a ∷ b ∷ c ∷ d ∷ []) v e = absurd cc
open_spelled (a ∷ b ∷ c ∷ d ∷ f ∷ []) v e =
    either_way (bytes_eq d (codes "else")) _ (Err UnknownWord) (Ok v) e
    (λ same read.
    let to = bind_ok (variable_in a) _ v read in
    let path = bind_ok (number_in last_path b) _ v to.2 in
    let mode = bind_ok (mode_in c) _ v path.2 in
    let otherwise = bind_ok (target_in f) _ v mode.2 in
    let p = variable_spelled a to.0 to.1 in
    let q = path_spelled b path.0 path.1 in
    let r = mode_spelled c mode.0 mode.1 in
    let s = target_spelled f otherwise.0 otherwise.1 in
    let last = else_spelled d f otherwise.0 same s.0 in
    let more : (c ∷ d ∷ f ∷ []) ≡ mode_name mode.0 ∷ codes "else" ∷ target otherwise.0 ∷ [] =
    both_same c (mode_name mode.0) (d ∷ f ∷ []) _ r.0 last in
    let most : (b ∷ c ∷ d ∷ f ∷ []) ≡ decimal path.0 ∷ mode_name mode.0 ∷ codes "else" ∷ target otherwise.0 ∷ [] =
    both_same b (decimal path.0) (c ∷ d ∷ f ∷ []) _ q.0 more in
    subst (IsSpelled open_words AreOpening (a ∷ b ∷ c ∷ d ∷ f ∷ []))
    (ok_is (to.0, path.0, mode.0, otherwise.0) v otherwise.2)
    (both_same a (variable to.0) (b ∷ c ∷ d ∷ f ∷ []) _ p.0 most, (p.1, q.1, r.1, s.1)))
    (λ never. absurd cc)
open_spelled (a ∷ b ∷ c ∷ d ∷ f ∷ g ∷ ws) v e = absurd cc

abbrev pub open_form : Form (ℕ × ℕ × Mode × ℕ)
open_form = record {
  read = open_in;
  spell = open_words;
  Fits = AreOpening;
  spelled = open_spelled;
  again =
      λ v fits. rw (
        variable_again v.0 fits.0,
        path_again v.1 fits.1,
        mode_again v.2 fits.2,
        target_again v.3 fits.3,
      ) refl;
  plain =
      λ v fits. (
        variable_plain v.0 fits.0,
        (
          path_plain v.1 fits.1,
          (mode_plain v.2 fits.2, ((refl, refl), (target_plain v.3 fits.3, tt))),
        ),
      );
}

-- ---- two variables, `else` and a target

abbrev pub pair_words : ℕ × ℕ × ℕ → List (List ℕ)
pair_words v = variable v.0 ∷ variable v.1 ∷ codes "else" ∷ target v.2 ∷ []

abbrev pub ArePair : ℕ × ℕ × ℕ → Type 0
ArePair v = (v.0 < variable_count) × (v.1 < variable_count) × (v.2 < target_count)

pub pair_spelled : (ws : List (List ℕ)) (v : ℕ × ℕ × ℕ) → pair_in ws ≡ Ok v → IsSpelled pair_words ArePair ws v
pair_spelled [] v e = absurd cc
pair_spelled (a ∷ []) v e = absurd cc
pair_spelled (a ∷ b ∷ []) v e = absurd cc
pair_spelled (a ∷ b ∷ c ∷ []) v e = absurd cc
pair_spelled (a ∷ b ∷ c ∷ d ∷ []) v e =
    either_way (bytes_eq c (codes "else")) _ (Err UnknownWord) (Ok v) e
    (λ same read.
    let first = bind_ok (variable_in a) _ v read in
    let second = bind_ok (variable_in b) _ v first.2 in
    let otherwise = bind_ok (target_in d) _ v second.2 in
    let p = variable_spelled a first.0 first.1 in
    let q = variable_spelled b second.0 second.1 in
    let r = target_spelled d otherwise.0 otherwise.1 in
    let last = else_spelled c d otherwise.0 same r.0 in
    let more : (b ∷ c ∷ d ∷ []) ≡ variable second.0 ∷ codes "else" ∷ target otherwise.0 ∷ [] =
    both_same b (variable second.0) (c ∷ d ∷ []) _ q.0 last in
    subst (IsSpelled pair_words ArePair (a ∷ b ∷ c ∷ d ∷ []))
    (ok_is (first.0, second.0, otherwise.0) v otherwise.2)
    (both_same a (variable first.0) (b ∷ c ∷ d ∷ []) _ p.0 more, (p.1, q.1, r.1)))
    (λ never. absurd cc)
pair_spelled (a ∷ b ∷ c ∷ d ∷ f ∷ ws) v e = absurd cc

abbrev pub pair_form : Form (ℕ × ℕ × ℕ)
pair_form = record {
  read = pair_in;
  spell = pair_words;
  Fits = ArePair;
  spelled = pair_spelled;
  again = λ v fits. rw (variable_again v.0 fits.0, variable_again v.1 fits.1, target_again v.2 fits.2) refl;
  plain =
      λ v fits. (
        variable_plain v.0 fits.0,
        (variable_plain v.1 fits.1, ((refl, refl), (target_plain v.2 fits.2, tt))),
      );
}
