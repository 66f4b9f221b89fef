use Rattle.std.proofs.Common.{◌≡◌, ◌∙◌, ◌<◌, ◌/◌, ◌%◌, ◌+◌, ◌-◌, ℕ, Bool, true, length, sym, ap, arith}
use Rattle.spv_table.specs.Table.{Table}
use Rattle.spv_table.specs.declared.front.Front.{Front}
use Rattle.spv_table.specs.inner.Front.{is_taken, front_at}
use Rattle.spv_inst.proofs.Instructions.{front_of}
use Rattle.spv_inst.proofs.Told.{told_instruction, head_within, kept, few}
use Rattle.spv_inst.proofs.instruction.read_instruction.Goals as goal

taken_is : (G : Table) (f : Front) (b : Bool) (opcode n : ℕ) → f ≡ front_at G opcode → b ≡ is_taken f n → b ≡ true
    → is_taken (front_at G opcode) n ≡ true
taken_is G f b opcode n e t u = ap (λ (g : Front). is_taken g n) (sym e) ∙ (sym t ∙ u)

pub read_front-requires-clause-order : goal.read_front-requires-clause-order
read_front-requires-clause-order c =
    let G = c.args.scene.now.table.now in
    let head = c.word-head.result in
    let t = taken_is G c.front-front.result c.takes.result (head % 65536)
    (head / 65536 - 1) c.front-front.ensures c.takes.ensures c.if-takes.true in
    let w = head_within G (head % 65536) (head / 65536 - 1) t in
    let some = c.if-count-gt0.true in
    rw c.front-front.ensures (omega (arith, w, some))

pub returns-then-takes-clause-read : goal.returns-then-takes-clause-read
returns-then-takes-clause-read c = λ b know.
    let G = c.args.scene.now.table.now in
    let ws = c.args.scene.now.image.now in
    let head = c.word-head.result in
    let os = c.args.operands.now.items in
    let some = c.if-count-gt0.true in
    let long = c.word-head.type_inv in
    let t = taken_is G c.front-front.result c.takes.result (head % 65536)
    (head / 65536 - 1) c.front-front.ensures c.takes.ensures c.if-takes.true in
    let f = front_of ws c.args.at head c.len.result c.requires.fits c.word-head.ensures c.len.ensures.words
    (λ z. omega (arith, z, some)) c.if-count-len.true in
    let e = rw c.front-front.ensures at c.in_ok-read_front.ensures in
    let first : c.len-first.result ≡ length os = omega arith in
    let n : head % 65536 < 65536 = omega arith in
    let l : head / 65536 < 65536 = omega (arith, long) in
    rw first (told_instruction G b ws c.args.at (head / 65536)
    (head % 65536) os c.read_front.new.operands.items f n l t e)

pub returns-then-takes-clause-kept : goal.returns-then-takes-clause-kept
returns-then-takes-clause-kept c =
    let os = c.args.operands.now.items in
    let first : c.len-first.result ≡ length os = omega arith in
    (first, rw first (kept os _ c.read_front.new.operands.items c.in_ok-read_front.ensures))

pub returns-then-takes-clause-few : goal.returns-then-takes-clause-few
returns-then-takes-clause-few c =
    let G = c.args.scene.now.table.now in
    let ws = c.args.scene.now.image.now in
    let head = c.word-head.result in
    let some = c.if-count-gt0.true in
    let there = c.if-count-len.true in
    let all = c.len.ensures.words in
    let inside = c.requires.fits in
    let t = taken_is G c.front-front.result c.takes.result (head % 65536)
    (head / 65536 - 1) c.front-front.ensures c.takes.ensures c.if-takes.true in
    let w = head_within G (head % 65536) (head / 65536 - 1) t in
    let e = rw c.front-front.ensures at c.in_ok-read_front.ensures in
    let n = few (front_at G (head % 65536)).head ws (c.args.at + 1)
    (c.args.at + head / 65536) c.args.operands.now.items c.read_front.new.operands.items
    (omega (arith, w, some)) (omega (arith, there, all, inside)) e in
    omega (arith, n, some)

pub returns-then-takes-clause-within : goal.returns-then-takes-clause-within
returns-then-takes-clause-within c =
    let some = c.if-count-gt0.true in
    let there = c.if-count-len.true in
    let all = c.len.ensures.words in
    let inside = c.requires.fits in
    (omega (arith, some), omega (arith, there, all, inside))
