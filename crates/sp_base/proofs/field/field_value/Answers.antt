use Rattle.std.specs.Prelude.{length}
use Rattle.sp_base.specs.Fields.{IsFieldWithin}
use Rattle.sp_base.proofs.FieldFound.{found_at, has_name, none_found, value_found}
use Rattle.sp_base.proofs.field.field_value.Goals as goal

pub value-requires : goal.value-requires
value-requires c = found_at (IsFieldWithin (length c.args.bytes.now)) (has_name c.args.name.now) c.args.fields.now c.first_named.result c.in-Some.field c.requires c.first_named.ensures c.in-Some.is

pub returns-in-Some : goal.returns-in-Some
returns-in-Some c = value_found c.args.bytes.now c.args.name.now c.args.fields.now c.first_named.result c.in-Some.field c.value.result.now c.first_named.ensures c.in-Some.is c.value.ensures

pub returns-in-None : goal.returns-in-None
returns-in-None c = none_found c.args.bytes.now c.args.name.now c.args.fields.now c.first_named.result c.first_named.ensures c.in-None.is
