use Rattle.std.proofs.Common.{◌∙◌, sym, true≢false}
use Rattle.function_entries.proofs.MeshLaws.{is_said, otherwise, primitives_unlike, unlike, vertices_unlike}
use Rattle.ir_items.specs.found.View.{module_view}
use Rattle.function_entries.proofs.meshes.check_implied.Goals as goal

pub returns : goal.returns
returns c =
    let i = c.args.implied.now in
    is_said (module_view c.args.«module».now) i.info c.args.mesh.now i.vertices_by i.primitives_by c.requires (c.is_same.ensures.0 c.if-not-is_same.false)
    (c.is_said_by.ensures.0 c.if-not-is_said_by.false) (c.is_said_by-2.ensures.0 c.if-not-is_said_by-2.false)

pub returns-then-not-is_said_by : goal.returns-then-not-is_said_by
returns-then-not-is_said_by c =
    let m = module_view c.args.«module».now in
    let i = c.args.implied.now in
    let differs = vertices_unlike m i.info c.args.mesh.now i.vertices_by i.primitives_by c.requires (λ s. true≢false (sym (c.is_said_by.ensures.1 s) ∙ c.if-not-is_said_by.true)) in
    otherwise m i.info c.args.mesh.now i.vertices_by i.primitives_by c.requires differs

pub returns-then-not-is_said_by-2 : goal.returns-then-not-is_said_by-2
returns-then-not-is_said_by-2 c =
    let m = module_view c.args.«module».now in
    let i = c.args.implied.now in
    let differs = primitives_unlike m i.info c.args.mesh.now i.vertices_by i.primitives_by c.requires (λ s. true≢false (sym (c.is_said_by-2.ensures.1 s) ∙ c.if-not-is_said_by-2.true)) in
    otherwise m i.info c.args.mesh.now i.vertices_by i.primitives_by c.requires differs

pub returns-then-not-is_same : goal.returns-then-not-is_same
returns-then-not-is_same c =
    let m = module_view c.args.«module».now in
    let i = c.args.implied.now in
    let differs = unlike m i.info c.args.mesh.now i.vertices_by i.primitives_by c.requires (λ s. true≢false (sym (c.is_same.ensures.1 s) ∙ c.if-not-is_same.true)) in
    otherwise m i.info c.args.mesh.now i.vertices_by i.primitives_by c.requires differs
