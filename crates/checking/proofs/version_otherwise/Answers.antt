-- `checking::version_otherwise` meets its contract. By the version of its dot in its point's record, and where there is none by all records (HomeLent). Assumes nothing.
use Rattle.block.proofs.Numbers.{bytes_of}
use Rattle.layout.specs.Image.{decode}
use Rattle.record.proofs.Reading.{version_at}
use Rattle.merging.proofs.Slots.{few_slots}
use Rattle.checking.proofs.HomeLent.{slot_inside, slot_dot, slot_settles, others_settle}
use native.Mathlib.Omega.{arith}
use Rattle.checking.proofs.version_otherwise.Goals as goal

pub version_dot-d-requires : goal.version_dot-d-requires
version_dot-d-requires c = (c.requires.3, omega (arith, few_slots c.args.b.now (bytes_of c.args.b.now c.type_inv.b) c.requires.3 c.requires.4, c.requires.5))

pub find_version-requires : goal.find_version-requires
find_version-requires c = (c.requires.6, few_slots c.args.p.now (bytes_of c.args.p.now c.type_inv.p) c.requires.6 c.requires.7, c.requires.8)

pub slots_differ-requires : goal.slots_differ-requires
slots_differ-requires c = (c.requires.3, c.requires.4, c.requires.5, c.requires.6, c.requires.7, slot_inside (decode c.args.image.now).points c.args.p.now (few_slots c.args.p.now (bytes_of c.args.p.now c.type_inv.p) c.requires.6 c.requires.7) (version_at c.args.b.now c.args.j) c.version_dot-d.result c.version_dot-d.ensures c.find_version.result c.find_version.ensures c.in-Ok.i c.in-Ok.is, slot_dot (decode c.args.image.now).points c.args.p.now (few_slots c.args.p.now (bytes_of c.args.p.now c.type_inv.p) c.requires.6 c.requires.7) (version_at c.args.b.now c.args.j) c.version_dot-d.result c.version_dot-d.ensures c.find_version.result c.find_version.ensures c.in-Ok.i c.in-Ok.is)

pub returns-in-Ok : goal.returns-in-Ok
returns-in-Ok c = slot_settles (decode c.args.image.now).points c.args.p.now (few_slots c.args.p.now (bytes_of c.args.p.now c.type_inv.p) c.requires.6 c.requires.7) (version_at c.args.b.now c.args.j) c.version_dot-d.result c.version_dot-d.ensures c.find_version.result c.find_version.ensures c.in-Ok.i c.in-Ok.is c.requires.8 c.slots_differ.result c.slots_differ.ensures

pub returns-in-Err : goal.returns-in-Err
returns-in-Err c = others_settle (decode c.args.image.now).points c.args.p.now (few_slots c.args.p.now (bytes_of c.args.p.now c.type_inv.p) c.requires.6 c.requires.7) (version_at c.args.b.now c.args.j) c.version_dot-d.result c.version_dot-d.ensures c.find_version.result c.find_version.ensures c.in-Err.field-0 c.in-Err.is c.stored_somewhere.result c.stored_somewhere.ensures
