use Rattle.spv_type_kinds.specs.declared.kinds.Object.TheVariants as object
use Rattle.spv_type_forms.specs.Types.{IsBool, IsObject}
use Rattle.spv_type_evidence.proofs.lemmas.types.Parts.{unless_moved}
use Rattle.spv_type_evidence.proofs.types.constant.first_failing.Goals as goal

pub returns-in-Bool : goal.returns-in-Bool
returns-in-Bool c = rw c.in-Bool.is (unless_moved
    (IsBool c.args.definitions.now c.args.r) c.is_bool.result c.first_unless.result c.is_bool.ensures
    c.first_unless.ensures)

pub returns-in-Composite : goal.returns-in-Composite
returns-in-Composite c = rw c.in-Composite.is c.first_of_parts.ensures

pub returns-in-SpecComposite : goal.returns-in-SpecComposite
returns-in-SpecComposite c = rw c.in-SpecComposite.is c.first_of_parts-in-SpecComposite.ensures

pub returns-in-PipeStorage : goal.returns-in-PipeStorage
returns-in-PipeStorage c = rw c.in-PipeStorage.is (unless_moved
    (IsObject c.args.definitions.now object.PipeStorage c.args.r) c.is_object.result
    c.first_unless-in-PipeStorage.result c.is_object.ensures c.first_unless-in-PipeStorage.ensures)

pub returns-in-Null : goal.returns-in-Null
returns-in-Null c = rw c.in-Null.is c.first_of_null.ensures

pub returns-in-Sampler : goal.returns-in-Sampler
returns-in-Sampler c = rw c.in-Sampler.is c.first_of_sampler.ensures
