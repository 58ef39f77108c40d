use Rattle.std.specs.Prelude.{All, vec_items}
use Rattle.std.proofs.Common.{◌≡◌, ℕ, List, Bor, map, length, ◌∙◌, ap, sym, subst}
use Rattle.std.proofs.lemmas.Result.{IfOk-weaker}
use Rattle.std.specs.String.{string_bytes}
use Rattle.brc_os.specs.HostStates.{HostState, AnswersForSystem, new_host}
use Rattle.brc_run.specs.Runs.{CountsMain}
use Rattle.brc_run.proofs.on_system.run_on_system.Goals as goal

-- Main's host has copies of the names.
pub returns : goal.returns
returns g c =
    let m = c.args.checked.now.module in
    let plan = c.args.plan in
    let names = map (λ (name : Bor (List ℕ)). name.now) in
    let paths = ap (map string_bytes) c.as_slice-3.ensures.value ∙ c.in_ok-paths.ensures in
    let peers = ap (map string_bytes) c.as_slice-4.ensures.value ∙ c.in_ok-peers.ensures in
    let asked : c.new-main_host.result ≡ new_host (names c.args.paths.now) (names c.args.peers.now) =
    c.new-main_host.ensures ∙ ap (λ l. new_host l (map string_bytes c.as_slice-4.result.now)) paths
    ∙ ap (new_host (names c.args.paths.now)) peers in
    let made = vec_items c.in_ok-hosts.hosts in
    let hosts = c.as_mut_slice.result.now in
    let fresh : All (λ host. host ≡ new_host (names c.args.paths.now) (names c.args.peers.now)) made =
    subst (λ (host : HostState). All (λ h. h ≡ host) made)
    (ap (λ l. new_host l (map string_bytes c.as_slice-2.result.now))
    (ap (map string_bytes) c.as_slice.ensures.value ∙ c.in_ok-paths.ensures)
    ∙ ap (new_host (names c.args.paths.now)) (ap (map string_bytes) c.as_slice-2.ensures.value ∙ c.in_ok-peers.ensures))
    c.in_ok-hosts.ensures.each in
    let given : All (λ host. host ≡ new_host (names c.args.paths.now) (names c.args.peers.now)) hosts =
    subst (All (λ host. host ≡ new_host (names c.args.paths.now) (names c.args.peers.now)))
    (sym c.as_mut_slice.ensures.value) fresh in
    IfOk-weaker c.run_alike.result _ _ (λ counted counts. (
      hosts,
      c.run_alike.new.main_host,
      ap length c.as_mut_slice.ensures.value ∙ c.in_ok-hosts.ensures.one_each,
      given,
      subst (λ (host : HostState). CountsMain AnswersForSystem (λ (h : HostState). h.counts) m plan.threads plan.rows
          plan.call plan.steps hosts host c.run_alike.new.main_host counted.tally) asked counts,
    )) c.run_alike.ensures
