use Rattle.cap_take_guards.proofs.Places.{put-left, room-for-two}
use Rattle.cap_take_guards.proofs.guards.with_left.Goals as goal

pub returns-in_ok-with_form-in-One : goal.returns-in_ok-with_form-in-One
returns-in_ok-with_form-in-One c = rw c.in-One.is (put-left c.put_guards.result c.args.state.now c.put_guards.new.self c.args.number c.in_ok-with_form-in-One.field-0 c.args.piece.now c.in-One.form c.requires.there c.in_ok-with_form-in-One.ensures c.put_guards.ensures)

pub put_both-requires-clause-room : goal.put_both-requires-clause-room
put_both-requires-clause-room c = room-for-two c.in-Both.front c.in-Both.behind c.args.left c.in-Both.is c.requires.room

pub returns-in-Both : goal.returns-in-Both
returns-in-Both c = rw c.in-Both.is c.put_both.ensures
