-- What an instruction begins doesn't depend on the layout and on the thread's number, but for births. The contracts of
-- the others hold for every value of these.
use Rattle.brc_world.proofs.dispatch.begin.Goals as goal

pub returns-in-NoneObject : goal.returns-in-NoneObject
returns-in-NoneObject c = rw c.in-NoneObject.is (c.name_none.ensures c.args.layout c.args.number)

pub returns-in-Take : goal.returns-in-Take
returns-in-Take c = rw c.in-Take.is (c.take_list.ensures c.args.number)

pub returns-in-Newref : goal.returns-in-Newref
returns-in-Newref c = rw c.in-Newref.is (c.name_again.ensures c.args.layout c.args.number)

pub returns-in-Move : goal.returns-in-Move
returns-in-Move c = rw c.in-Move.is (c.hand_on.ensures c.args.layout c.args.number)

pub returns-in-Drop : goal.returns-in-Drop
returns-in-Drop c = rw c.in-Drop.is (c.give_up.ensures c.args.layout c.args.number)

pub returns-in-Lock : goal.returns-in-Lock
returns-in-Lock c = rw c.in-Lock.is (c.lock.ensures c.args.layout c.args.number)

pub returns-in-Unlock : goal.returns-in-Unlock
returns-in-Unlock c = rw c.in-Unlock.is (c.unlock.ensures c.args.layout c.args.number)

pub returns-in-As : goal.returns-in-As
returns-in-As c = rw c.in-As.is (c.ask_kind.ensures c.args.layout c.args.number)

pub returns-in-Goto : goal.returns-in-Goto
returns-in-Goto c = rw c.in-Goto.is (c.go.ensures c.args.layout c.args.number)

pub returns-in-Again : goal.returns-in-Again
returns-in-Again c = rw c.in-Again.is (c.again.ensures c.args.layout c.args.number)

pub returns-in-Read : goal.returns-in-Read
returns-in-Read c = rw c.in-Read.is (c.read.ensures c.in-Read.most)

pub returns-in-Write : goal.returns-in-Write
returns-in-Write c =
    rw c.in-Write.is (c.write.ensures c.args.layout c.args.number c.in-Write.file c.in-Write.otherwise)

pub returns-in-Ret : goal.returns-in-Ret
returns-in-Ret c = rw c.in-Ret.is (c.return_object.ensures c.args.layout c.args.number)

pub returns-in-Fail : goal.returns-in-Fail
returns-in-Fail c = rw c.in-Fail.is (c.fail.ensures c.args.layout c.args.number)

pub returns-in-Call : goal.returns-in-Call
returns-in-Call c = rw c.in-Call.is c.call.ensures

pub call-requires : goal.call-requires
call-requires c = record { can = c.requires.can; few = rw c.in-Call.is at c.requires.few }
