use Rattle.std.proofs.Common.{◌≡◌, ap, ◌∙◌, subst}
use Rattle.brc_model.specs.Paths.{ReportsCode}
use Rattle.brc_c_paths.specs.declared.fault.Fault.{Fault}
use Rattle.brc_c_paths.specs.Closed.{IsListed}
use Rattle.brc_c_judge.specs.Texts.{Shown, IsShown}
use Rattle.brc_c_judge.specs.Verdicts.{faults_in}
use Rattle.brc_c_judge.proofs.Confirming.{IsMadeOf, of_some}
use Rattle.brc_c_judge.proofs.laws.every_graph_path_has_its_walk.Goals as goal

pub returns : goal.returns
returns c rules graph live confirmed faults shown node code breaks =
    let l : IsListed (faults_in confirmed) node code = faults.listed node code breaks in
    let found : IsMadeOf (λ (it : Shown). it.fault) confirmed l.fault =
    of_some (λ (it : Shown). it.fault) confirmed l.fault l.listed
    in
    let here : IsShown found.x = shown found.x found.among in
    let same : found.x.fault.code ≡ code = ap (λ (f : Fault). f.code) found.makes ∙ l.breaks in
    record {
      it = found.x;
      listed = found.among;
      there = ap (λ (f : Fault). f.node) found.makes ∙ l.there;
      same = same;
      shown = here;
      reports = subst (ReportsCode here.shows.function found.x.text.at) same
          (c.every_path_has_its_walk.ensures here.shows.function found.x.text.outline found.x.text.at
          found.x.fault.code here.shows.image here.broken);
    }
