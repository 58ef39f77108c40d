-- Calls of a host after other calls.
use Rattle.std.proofs.Common.{◌≡◌, ℕ, ◌+◌, Bool, true, false, List, [], ◌∷◌, ◌++◌, append_assoc, append-nil, refl, sym, ap, ◌∙◌, subst}
use Rattle.std.proofs.Math.Nat.{add_assoc, zero-add}
use Rattle.std.specs.Prelude.{if◌then◌else◌}
use Rattle.brc_host.specs.declared.counts.HostCounts.{HostCounts}
use Rattle.brc_host.specs.HostCalls.{HostCall, Open, Connect, Read, Write, Close, has_failed, after_call, HasAnswered, NoCall, OneMore, close_faults, host_faults}

module _ {S : Type 0} {answers : S → HostCall → S → Type 0} {counts : S → HostCounts} where
  -- One call.
  pub one_call : {u w : S} {call : HostCall} → answers u call w → counts w ≡ after_call call (counts u)
      → HasAnswered answers counts u (call ∷ []) w
  one_call {u} {w} {call} answered counted = OneMore [] call u w NoCall answered counted

  -- More calls.
  pub answered_then : {v u w : S} {calls more : List HostCall} → HasAnswered answers counts v calls u
      → HasAnswered answers counts u more w → HasAnswered answers counts v (calls ++ more) w
  answered_then {v} {u} {w} {calls} one NoCall =
      subst (λ (cs : List HostCall). HasAnswered answers counts v cs u) (sym (append-nil calls)) one
  answered_then {v} {u} {w} {calls} one (OneMore more call x y other answered counted) =
      subst (λ (cs : List HostCall). HasAnswered answers counts v cs w) (append_assoc calls more (call ∷ []))
      (OneMore (calls ++ more) call x w (answered_then one other) answered counted)

-- ---- faults

pub close_faults_then : (calls more : List HostCall)
    → close_faults (calls ++ more) ≡ close_faults calls + close_faults more
close_faults_then [] more = sym (zero-add (close_faults more))
close_faults_then (Close true ∷ rest) more =
    ap (λ (n : ℕ). 1 + n) (close_faults_then rest more) ∙ sym (add_assoc 1 (close_faults rest) (close_faults more))
close_faults_then (Close false ∷ rest) more = close_faults_then rest more
close_faults_then (Open path mode failed ∷ rest) more = close_faults_then rest more
close_faults_then (Connect peer failed ∷ rest) more = close_faults_then rest more
close_faults_then (Read most got ∷ rest) more = close_faults_then rest more
close_faults_then (Write bytes failed ∷ rest) more = close_faults_then rest more

one_more : (call : HostCall) (rest more : List HostCall)
    → host_faults (rest ++ more) ≡ host_faults rest + host_faults more
    → (if has_failed call then 1 else 0) + host_faults (rest ++ more)
    ≡ ((if has_failed call then 1 else 0) + host_faults rest) + host_faults more
one_more call rest more same =
    ap (λ (n : ℕ). (if has_failed call then 1 else 0) + n) same
    ∙ sym (add_assoc (if has_failed call then 1 else 0) (host_faults rest) (host_faults more))

pub host_faults_then : (calls more : List HostCall) → host_faults (calls ++ more) ≡ host_faults calls + host_faults more
host_faults_then [] more = sym (zero-add (host_faults more))
host_faults_then (Close failed ∷ rest) more = host_faults_then rest more
host_faults_then (Open path mode failed ∷ rest) more =
    one_more (Open path mode failed) rest more (host_faults_then rest more)
host_faults_then (Connect peer failed ∷ rest) more =
    one_more (Connect peer failed) rest more (host_faults_then rest more)
host_faults_then (Read most got ∷ rest) more = one_more (Read most got) rest more (host_faults_then rest more)
host_faults_then (Write bytes failed ∷ rest) more =
    one_more (Write bytes failed) rest more (host_faults_then rest more)

-- of one close
pub one_close : (failed : Bool) → close_faults (Close failed ∷ []) ≡ if failed then 1 else 0
one_close true = refl
one_close false = refl
