-- What invalidation a request asks for (Adobe Dispatcher manual, "Invalidating Cached Pages From AEM").
use Rattle.std.specs.Prelude.{Bool, false, nat_eq, if◌then◌else◌, Option, Some, None, option_and_then, ok_or, Result, Ok, Err, codes}
use Rattle.std.specs.Option.{option_map}
use Rattle.std.specs.Cmp.Lexicographic.{pointwise}
use Rattle.std.specs.Str.{is_utf8}
use Rattle.percent_encoding.specs.Percent.{percent_decode}
use Rattle.sp_base.specs.Texts.{Text, Segments}
use Rattle.sp_base.specs.Fields.{field_of}
use Rattle.sp_base.specs.Paths.{path_in, text_of, unmangled_segs}
use Rattle.sp_base.specs.Requests.{Request}
use Rattle.cover_rules.specs.declared.invalidation.Action.{Action}
use Rattle.cover_rules.specs.declared.invalidation.Action.TheVariants.{Activate, Deactivate, Delete}
use Rattle.cover_rules.specs.declared.invalidation.Invalidation.{Invalidation}
use Rattle.invalidation.specs.declared.inv_fault.InvFault.{InvFault}
use Rattle.invalidation.specs.declared.inv_fault.InvFault.TheVariants.{NoHandle, BadHandle, BadAction}

-- the request is for `/dispatcher/invalidate.cache`, whatever its method and its query
abbrev pub is_invalidation : Request → Bool
is_invalidation request = pointwise nat_eq (text_of request.path) (codes "/dispatcher/invalidate.cache")

-- the path that a text spells, with its namespace prefixes as they stand in the repository, where it spells one
abbrev pub unmangled_path_in : Text → Option Segments
unmangled_path_in text = option_map unmangled_segs (path_in text)

-- the path that decoded bytes spell, where they are UTF-8 and spell one
abbrev pub handle_in : Text → Option Segments
handle_in bytes = if is_utf8 bytes then unmangled_path_in bytes else None

-- the handle that a `CQ-Handle` field names: the path that its value spells, each escape in it decoded (RFC 3986, section 2.1)
abbrev pub named_handle : Option Text → Result Segments InvFault
named_handle None = Err NoHandle
named_handle (Some value) = ok_or (handle_in (percent_decode value)) BadHandle

-- the handle of an invalidation: that of its first `CQ-Handle` field
abbrev pub requested_handle : Request → Result Segments InvFault
requested_handle request = named_handle (field_of request.heads (codes "cq-handle"))

-- the action of this name, in just these letters
abbrev pub named_action : Text → Option Action
named_action value = if pointwise nat_eq value (codes "Activate") then Some Activate
    else (if pointwise nat_eq value (codes "Deactivate") then Some Deactivate
    else (if pointwise nat_eq value (codes "Delete") then Some Delete else None))

-- the action of an invalidation: that of its first `CQ-Action` field
abbrev pub requested_action : Request → Option Action
requested_action request = option_and_then named_action (field_of request.heads (codes "cq-action"))

-- the scope is the resource alone, so that no .stat file is touched; any other word is no scope
abbrev pub is_resource_scope : Option Text → Bool
is_resource_scope None = false
is_resource_scope (Some value) = pointwise nat_eq value (codes "ResourceOnly")

-- the first `CQ-Action-Scope` field says so
abbrev pub is_resource_only : Request → Bool
is_resource_only request = is_resource_scope (field_of request.heads (codes "cq-action-scope"))

-- the invalidation with this handle, where there is one: a fault of the handle comes before one of the action
abbrev pub invalidation_with : Result Segments InvFault → Option Action → Bool → Result Invalidation InvFault
invalidation_with (Err fault) action only = Err fault
invalidation_with (Ok handle) None only = Err BadAction
invalidation_with (Ok handle) (Some action) only = Ok (record { action = action; handle = handle; only = only })

-- the invalidation that the fields of a request name, or its first fault
abbrev pub invalidation_of : Request → Result Invalidation InvFault
invalidation_of request = invalidation_with (requested_handle request) (requested_action request) (is_resource_only request)
