-- `record::point_laid_out` meets its contract. With at most 8 versions the answer hangs on five tests (LaidOut). Assumes nothing.
-- where the count is at most 8 the answer hangs on the tests that follow
use Rattle.block.specs.Kind.{kind_number}
use Rattle.block.proofs.Begins.{kind_fits}
use Prim.Native.Nat.{ℕ, ◌≤◌, ◌<◌}
use mathlib.Core.Path.{◌≡◌, sym, subst, ◌∙◌}
use mathlib.Core.List.{List}
use native.Mathlib.Omega.{arith}
use lib.ListN.{length, get_or}
use mir.Syntax.{w8}
use mir.Val.{Fits}
use Rattle.block.proofs.Numbers.{bytes_of}
use Rattle.numbers.specs.Words.{same_list}
use Rattle.block.specs.Fields.{field}
use Rattle.layout.specs.PointBlock.{form_1, encode_point, decode_point}
use Rattle.block.proofs.Passing.{HangsOn, passed, failed, last_test, said_no, said_yes}
use Rattle.record.proofs.LaidOut.{block_tests, point_few, point_many}
use Rattle.record.proofs.point_laid_out.Goals as goal

start : (b : List ℕ) (kind position count : ℕ) → ((i : ℕ) → Fits w8 (get_or b i 0)) → length b ≡ 512 → kind < 256 → position < 65536 → count ≡ field b 5 1 → count ≤ 8
    → HangsOn (same_list (encode_point form_1 kind position (decode_point form_1 b)) b) (block_tests b kind position count)
start b kind position count s e k p r l =
    subst (λ (m : ℕ). HangsOn (same_list (encode_point form_1 kind position (decode_point form_1 b)) b) (block_tests b kind position m)) (sym r)
    (point_few b (bytes_of b s) e kind position k p (omega arith))

pub returns-then-count-gt8 : goal.returns-then-count-gt8
returns-then-count-gt8 c = let a = c.args in
    sym (point_many a.b.now (bytes_of a.b.now c.type_inv.b) (omega arith) (kind_number a.kind) a.position (kind_fits a.kind) (omega arith) (omega (arith, c.version_count-count.ensures)))

pub returns-then-not-headed : goal.returns-then-not-headed
returns-then-not-headed c = let a = c.args in
    let s1 = start a.b.now (kind_number a.kind) a.position c.version_count-count.result c.type_inv.b (omega arith) (kind_fits a.kind) (omega arith) c.version_count-count.ensures (omega arith) in
    failed s1 (said_no c.headed.ensures c.if-not-headed.true-raw)

pub returns-then-not-slots_laid_out : goal.returns-then-not-slots_laid_out
returns-then-not-slots_laid_out c = let a = c.args in
    let s1 = start a.b.now (kind_number a.kind) a.position c.version_count-count.result c.type_inv.b (omega arith) (kind_fits a.kind) (omega arith) c.version_count-count.ensures (omega arith) in
    let s2 = passed s1 (said_yes c.headed.ensures c.if-not-headed.false-raw) in
    failed s2 (said_no c.slots_laid_out.ensures c.if-not-slots_laid_out.true-raw)

pub returns-then-not-is_zero : goal.returns-then-not-is_zero
returns-then-not-is_zero c = let a = c.args in
    let s1 = start a.b.now (kind_number a.kind) a.position c.version_count-count.result c.type_inv.b (omega arith) (kind_fits a.kind) (omega arith) c.version_count-count.ensures (omega arith) in
    let s2 = passed s1 (said_yes c.headed.ensures c.if-not-headed.false-raw) in
    let s3 = passed s2 (said_yes c.slots_laid_out.ensures c.if-not-slots_laid_out.false-raw) in
    failed s3 (said_no c.is_zero.ensures c.if-not-is_zero.true-raw)

pub returns-then-not-is_zero-2 : goal.returns-then-not-is_zero-2
returns-then-not-is_zero-2 c = let a = c.args in
    let s1 = start a.b.now (kind_number a.kind) a.position c.version_count-count.result c.type_inv.b (omega arith) (kind_fits a.kind) (omega arith) c.version_count-count.ensures (omega arith) in
    let s2 = passed s1 (said_yes c.headed.ensures c.if-not-headed.false-raw) in
    let s3 = passed s2 (said_yes c.slots_laid_out.ensures c.if-not-slots_laid_out.false-raw) in
    let s4 = passed s3 (said_yes c.is_zero.ensures c.if-not-is_zero.false-raw) in
    failed s4 (said_no c.is_zero-2.ensures c.if-not-is_zero-2.true-raw)

pub returns : goal.returns
returns c = let a = c.args in
    let s1 = start a.b.now (kind_number a.kind) a.position c.version_count-count.result c.type_inv.b (omega arith) (kind_fits a.kind) (omega arith) c.version_count-count.ensures (omega arith) in
    let s2 = passed s1 (said_yes c.headed.ensures c.if-not-headed.false-raw) in
    let s3 = passed s2 (said_yes c.slots_laid_out.ensures c.if-not-slots_laid_out.false-raw) in
    let s4 = passed s3 (said_yes c.is_zero.ensures c.if-not-is_zero.false-raw) in
    let s5 = passed s4 (said_yes c.is_zero-2.ensures c.if-not-is_zero-2.false-raw) in
    c.is_sealed.ensures ∙ last_test s5
