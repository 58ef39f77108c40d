use Rattle.brc_check.proofs.Tables.{are_verified, refused_shape, not_refused}
use Rattle.brc_check.proofs.verifying.verify.Goals as goal

pub new-requires-clause-acceptable : goal.new-requires-clause-acceptable
new-requires-clause-acceptable c =
    (are_verified c.args.module c.args.table c.as_slice.result.now c.lists.result.now c.as_slice.ensures c.lists.ensures
    c.in-None.ensures).acceptable

pub new-requires-clause-truth : goal.new-requires-clause-truth
new-requires-clause-truth c =
    (are_verified c.args.module c.args.table c.as_slice.result.now c.lists.result.now c.as_slice.ensures c.lists.ensures
    c.in-None.ensures).truth

pub returns-in-Some-clause-complete : goal.returns-in-Some-clause-complete
returns-in-Some-clause-complete c =
    λ accepted true_table. absurd (not_refused c.args.module c.args.table c.as_slice.result.now c.lists.result.now
    c.in-Some.refused c.as_slice.ensures c.lists.ensures c.in-Some.ensures accepted true_table)

pub returns-in-None-clause-truth : goal.returns-in-None-clause-truth
returns-in-None-clause-truth c =
    (are_verified c.args.module c.args.table c.as_slice.result.now c.lists.result.now c.as_slice.ensures c.lists.ensures
    c.in-None.ensures).truth

pub returns-in-Some-clause-shape : goal.returns-in-Some-clause-shape
returns-in-Some-clause-shape c =
    λ other. refused_shape c.args.module c.args.table c.as_slice.result.now c.lists.result.now c.in-Some.refused
    c.as_slice.ensures c.lists.ensures c.in-Some.ensures other

pub returns-in-None-clause-shape : goal.returns-in-None-clause-shape
returns-in-None-clause-shape c =
    λ other. absurd (other (are_verified c.args.module c.args.table c.as_slice.result.now c.lists.result.now
    c.as_slice.ensures c.lists.ensures c.in-None.ensures).truth.shape)

pub returns-in-None-clause-safe : goal.returns-in-None-clause-safe
returns-in-None-clause-safe c =
    c.accepted_is_safe.ensures c.args.module c.requires
    (are_verified c.args.module c.args.table c.as_slice.result.now c.lists.result.now c.as_slice.ensures
    c.lists.ensures c.in-None.ensures).acceptable
