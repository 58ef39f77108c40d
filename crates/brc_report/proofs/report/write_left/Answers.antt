use Rattle.std.proofs.Common.{◌≡◌, ◌++◌, ◌∙◌, ℕ, List, ap, append_assoc, codes, refl, sym}
use Rattle.std.proofs.KnownBytes.{Appends-trans}
use Rattle.brc_report.proofs.Writing.{stops_early, stops_between, stops_late}
use Rattle.brc_report.specs.declared.tally.Left.{Left}
use Rattle.brc_lang.specs.Grammar.{kind_name}
use Rattle.brc_report.specs.Report.{entry, left_text}
use Rattle.brc_report.proofs.report.write_left.Goals as goal

-- the line, with the number and the word as the code has them
parts : (l : Left) (row : ℕ) (word : List ℕ) → row ≡ l.row → word ≡ kind_name l.kind
    → left_text l ≡ entry (codes "left") row ++ codes " " ++ word ++ codes "\n"
parts l row word rowed worded =
    ap (λ r. entry (codes "left") r ++ codes " " ++ kind_name l.kind ++ codes "\n") (sym rowed)
    ∙ ap (λ w. entry (codes "left") row ++ codes " " ++ w ++ codes "\n") (sym worded)

from_second : (a b c d : List ℕ) → a ++ b ++ c ++ d ≡ a ++ (b ++ c ++ d)
from_second a b c d = ap (λ l. l ++ d) (append_assoc a b c) ∙ append_assoc a (b ++ c) d

pub returns-in_err-write_entry-clause-begun : goal.returns-in_err-write_entry-clause-begun
returns-in_err-write_entry-clause-begun g c =
    let opened = entry (codes "left") c.from.result in
    let word = kind_name c.args.left.now.kind in
    stops_early _ _ _ _ opened (codes " " ++ word ++ codes "\n")
    (parts c.args.left.now c.from.result word c.from.ensures refl ∙ from_second opened (codes " ") word (codes "\n"))
    c.in_err-write_entry.ensures.begun

pub returns-in_err-write_bytes-clause-begun : goal.returns-in_err-write_bytes-clause-begun
returns-in_err-write_bytes-clause-begun g c =
    let opened = entry (codes "left") c.from.result in
    let word = kind_name c.args.left.now.kind in
    stops_between _ _ _ _ _ opened (codes " ") (word ++ codes "\n")
    (parts c.args.left.now c.from.result word c.from.ensures refl
    ∙ append_assoc (opened ++ codes " ") word (codes "\n"))
    c.in_ok-write_entry.ensures.whole c.in_err-write_bytes.ensures.begun

pub returns-in_err-write_bytes-2-clause-begun : goal.returns-in_err-write_bytes-2-clause-begun
returns-in_err-write_bytes-2-clause-begun g c =
    let opened = entry (codes "left") c.from.result in
    let word = c.as_bytes.result.now in
    let before =
    Appends-trans _ _ _ opened (codes " ") c.in_ok-write_entry.ensures.whole c.in_ok-write_bytes.ensures.whole in
    stops_between _ _ _ _ _ (opened ++ codes " ") word (codes "\n")
    (parts c.args.left.now c.from.result word c.from.ensures (c.as_bytes.ensures.value ∙ c.name.ensures))
    before c.in_err-write_bytes-2.ensures.begun

pub returns-clause-begun : goal.returns-clause-begun
returns-clause-begun g c =
    let opened = entry (codes "left") c.from.result in
    let word = c.as_bytes.result.now in
    let spaced =
    Appends-trans _ _ _ opened (codes " ") c.in_ok-write_entry.ensures.whole c.in_ok-write_bytes.ensures.whole in
    let before = Appends-trans _ _ _ (opened ++ codes " ") word spaced c.in_ok-write_bytes-2.ensures.whole in
    stops_late _ _ _ _ _ (opened ++ codes " " ++ word) (codes "\n")
    (parts c.args.left.now c.from.result word c.from.ensures (c.as_bytes.ensures.value ∙ c.name.ensures))
    before c.write_bytes-3.ensures.begun
