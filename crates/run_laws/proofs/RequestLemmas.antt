-- The requests that a stream spells have paths, and what they name is of a path.
use Rattle.std.proofs.Common.{◌≡◌, ◌∙◌, ℕ, Bool, true, false, List, [], ◌∷◌, Option, Some, None, Result, Ok, Err, IsTrue, refl, ap, sym, codes}
use Rattle.std.specs.Prelude.{if◌then◌else◌, option_and_then, ok_or}
use Rattle.std.specs.Option.{option_map}
use Rattle.std.specs.Result.{result_ok}
use Rattle.std.specs.Str.{is_utf8}
use Rattle.sp_base.specs.Requests.{Request}
use Rattle.sp_base.specs.Fields.{field_of}
use Rattle.sp_base.specs.Paths.{is_path, path_in, path_of, unmangled_segs}
use Rattle.sp_base.specs.declared.path.PathFault.{PathFault}
use Rattle.sp_base.proofs.OptionLemmas.{cond_some_same}
use Rattle.glob_rules.specs.Rules.{allows}
use Rattle.any_config.specs.declared.farm.Farm.{Farm}
use Rattle.cover_rules.specs.Pages.{page_key_of, page_text}
use Rattle.cover_rules.specs.declared.page.PageKey.{PageKey}
use Rattle.cover_rules.specs.declared.invalidation.Action.{Action}
use Rattle.cover_rules.specs.declared.invalidation.Invalidation.{Invalidation}
use Rattle.dispatch_rules.specs.Caching.{allowed_key, cache_key, may_keep}
use Rattle.invalidation.specs.Invalidations.{handle_in, invalidation_of, invalidation_with, is_resource_only, named_handle, requested_action, requested_handle, unmangled_path_in}
use Rattle.invalidation.specs.declared.inv_fault.InvFault.{InvFault}
use Rattle.invalidation.specs.declared.inv_fault.InvFault.TheVariants.{BadHandle}
use Rattle.http_front.specs.declared.target.Target.{Target}
use Rattle.http_front.specs.declared.turn.Turn.{Turn}
use Rattle.http_front.specs.declared.turn.Turn.TheVariants.{Continue, Whole}
use Rattle.http_front.specs.Targets.{begins_with_slash, path_bytes, path_of_bytes, target_of, utf8_text, with_path, without_slash}
use Rattle.http_front.specs.Heads.{AskedFields, HeadParts, asked_host, asked_of, asked_with, body_length, heads, parts_of}
use Rattle.http_front.specs.Turns.{BeginsWithRequest, End, SpellsTurns}
use Rattle.run_events.specs.Named.{IsPage, IsHandle}

-- a text that reads as a path reads as one
abbrev pub ReadsPaths : Type 0
ReadsPaths = (text : List ℕ) (path : List (List ℕ)) → path_of text ≡ Ok path → IsTrue (is_path path)

-- the key of a page doesn't depend on how its path is spelled
abbrev pub KeysAreOfPaths : Type 0
KeysAreOfPaths = (path : List (List ℕ)) → page_key_of (unmangled_segs path) ≡ page_key_of path

-- the request has a path, with its namespace prefixes as they stand in the repository
pub record HasPath (request : Request) : Type 0 where
  pub path : List (List ℕ)
  pub is : IsTrue (is_path path)
  pub path_is : request.path ≡ unmangled_segs path

-- each request of the turns does
abbrev pub HavePaths : List Turn → Type 0
HavePaths [] = Unit {0}
HavePaths (Continue ∷ turns) = HavePaths turns
HavePaths (Whole request ∷ turns) = HasPath request × HavePaths turns

-- ---- paths that are read
ok-of : (r : Result (List (List ℕ)) PathFault) (path : List (List ℕ)) → result_ok r ≡ Some path → r ≡ Ok path
ok-of (Ok p) path e = cc (e)
ok-of (Err fault) path e = absurd (let never : ⊥ = cc in never)

text-path : ReadsPaths → (text : List ℕ) (path : List (List ℕ)) → path_in text ≡ Some path → IsTrue (is_path path)
text-path reads text path e = reads text path (ok-of (path_of text) path e)

bytes-path : ReadsPaths → (text : Option (List ℕ)) (path : List (List ℕ)) → option_and_then (λ t. path_in (without_slash t)) text ≡ Some path → IsTrue (is_path path)
bytes-path reads None path e = absurd (let never : ⊥ = cc in never)
bytes-path reads (Some text) path e = text-path reads (without_slash text) path e

-- ---- the target of a request
record TargetPath (target : Target) : Type 0 where
  path : List (List ℕ)
  is : IsTrue (is_path path)
  path_is : target.path ≡ unmangled_segs path

mapped-path : ReadsPaths → (bytes : List ℕ) (read : Option (List (List ℕ))) (target : Target) → path_of_bytes (path_bytes bytes) ≡ read → option_map (with_path bytes) read ≡ Some target → TargetPath target
mapped-path reads bytes None target from e = absurd (let never : ⊥ = cc in never)
mapped-path reads bytes (Some path) target from e =
    let same : with_path bytes path ≡ target = cc (e) in
    record { path = path; is = bytes-path reads (utf8_text (path_bytes bytes)) path from; path_is = sym (ap (λ (t : Target). t.path) same) }

target-path : ReadsPaths → (bytes : List ℕ) (target : Target) → target_of bytes ≡ Some target → TargetPath target
target-path reads bytes target e = by_slash (begins_with_slash bytes) e
  where
    by_slash : (b : Bool) → (if b then option_map (with_path bytes) (path_of_bytes (path_bytes bytes)) else None) ≡ Some target → TargetPath target
    by_slash true e = mapped-path reads bytes (path_of_bytes (path_bytes bytes)) target refl e
    by_slash false e = absurd (let never : ⊥ = cc in never)

asked-target : (host : Option (List ℕ × ℕ)) (target : Option Target) (n : Option ℕ) (asked : AskedFields)
    → option_and_then (λ h. option_and_then (λ read. option_map (asked_with h read) n) target) host ≡ Some asked → target ≡ Some asked.target
asked-target None target n asked e = absurd (let never : ⊥ = cc in never)
asked-target (Some h) None n asked e = absurd (let never : ⊥ = cc in never)
asked-target (Some h) (Some t) None asked e = absurd (let never : ⊥ = cc in never)
asked-target (Some h) (Some t) (Some n) asked e =
    let same : asked_with h t n ≡ asked = cc (e) in ap (λ (a : AskedFields). Some a.target) same

head-target : (p : HeadParts) (asked : AskedFields) → asked_of p.minor p.target (heads p) ≡ Some asked → target_of p.target ≡ Some asked.target
unfolding asked_of
head-target p asked e = asked-target (asked_host p.minor (heads p)) (target_of p.target) (body_length (heads p)) asked e

request-path : ReadsPaths → (stream : List ℕ) (awaits : Bool) (request : Request) (rest : List ℕ) → BeginsWithRequest stream awaits request rest → HasPath request
request-path reads stream awaits request rest begins =
    let asks = begins.begins.asks in
    let p = parts_of begins.begins.head in
    let target = target-path reads p.target asks.asked.target (head-target p asks.asked asks.asked_is) in
    let head : begins.asked.request.path ≡ asks.asked.target.path = ap (λ a. a.request.path) asks.head_is in
    let same : request.path ≡ begins.asked.request.path = ap (λ (r : Request). r.path) begins.body.request_is in
    record { path = target.path; is = target.is; path_is = same ∙ head ∙ target.path_is }

-- each request that a stream spells has a path
pub turns-have-paths : ReadsPaths → (stream : List ℕ) (turns : List Turn) (end : End) → SpellsTurns stream turns end → HavePaths turns
turns-have-paths reads stream [] end spells = tt
turns-have-paths reads stream (Whole request ∷ turns) end spells = (request-path reads stream false request spells.0 spells.1, turns-have-paths reads spells.0 turns end spells.2)
turns-have-paths reads stream (Continue ∷ []) end spells = tt
turns-have-paths reads stream (Continue ∷ Continue ∷ turns) end spells = absurd spells
turns-have-paths reads stream (Continue ∷ Whole request ∷ turns) end spells = (request-path reads stream true request spells.0 spells.1, turns-have-paths reads spells.0 turns end spells.2)

-- ---- the key of a request
kept-key : (farm : Farm) (may : Bool) (at : Option PageKey) (key : PageKey) → (if may then option_and_then (allowed_key farm) at else None) ≡ Some key → at ≡ Some key
kept-key farm false at key e = absurd (let never : ⊥ = cc in never)
kept-key farm true None key e = absurd (let never : ⊥ = cc in never)
kept-key farm true (Some k) key e = ap (λ x. Some x) (cond_some_same (allows farm.rules (page_text k)) k key e)

-- it is a page's
pub key-of-page : KeysAreOfPaths → (farm : Farm) (request : Request) (key : Option PageKey) → HasPath request → cache_key farm request ≡ key → IsPage key
key-of-page keys farm request None has e = tt
key-of-page keys farm request (Some key) has e =
    let at : page_key_of request.path ≡ Some key = kept-key farm (may_keep farm request) (page_key_of request.path) key e in
    (has.path, has.is, sym (keys has.path) ∙ ap page_key_of (sym has.path_is) ∙ at)

-- ---- the handle of an invalidation
unmangled-handle : ReadsPaths → (text : List ℕ) (read : Option (List (List ℕ))) (handle : List (List ℕ)) → path_in text ≡ read → option_map unmangled_segs read ≡ Some handle → IsHandle handle
unmangled-handle reads text None handle from e = absurd (let never : ⊥ = cc in never)
unmangled-handle reads text (Some path) handle from e =
    let same : unmangled_segs path ≡ handle = cc (e) in (path, text-path reads text path from, sym same)

bytes-handle : ReadsPaths → (bytes : List ℕ) (utf8 : Bool) (handle : List (List ℕ)) → (if utf8 then unmangled_path_in bytes else None) ≡ Some handle → IsHandle handle
bytes-handle reads bytes true handle e = unmangled-handle reads bytes (path_in bytes) handle refl e
bytes-handle reads bytes false handle e = absurd (let never : ⊥ = cc in never)

some-of : (o : Option (List (List ℕ))) (handle : List (List ℕ)) → ok_or o BadHandle ≡ Ok handle → o ≡ Some handle
some-of None handle e = absurd (let never : ⊥ = cc in never)
some-of (Some h) handle e = cc (e)

decoded-handle : ReadsPaths → (bytes : List ℕ) (handle : List (List ℕ)) → ok_or (handle_in bytes) BadHandle ≡ Ok handle → IsHandle handle
decoded-handle reads bytes handle e = bytes-handle reads bytes (is_utf8 bytes) handle (some-of (handle_in bytes) handle e)

field-handle : ReadsPaths → (value : Option (List ℕ)) (handle : List (List ℕ)) → named_handle value ≡ Ok handle → IsHandle handle
field-handle reads None handle e = absurd (let never : ⊥ = cc in never)
field-handle reads (Some value) handle e = decoded-handle reads _ handle e

with-handle : (named : Result (List (List ℕ)) InvFault) (action : Option Action) (only : Bool) (inv : Invalidation) → invalidation_with named action only ≡ Ok inv → named ≡ Ok inv.handle
with-handle (Err fault) action only inv e = absurd (let never : ⊥ = cc in never)
with-handle (Ok handle) None only inv e = absurd (let never : ⊥ = cc in never)
with-handle (Ok handle) (Some action) only inv e =
    let made : Invalidation = record { action = action; handle = handle; only = only } in
    let same : made ≡ inv = cc (e) in ap (λ (i : Invalidation). Ok i.handle) same

-- it is a path's
pub handle-of-request : ReadsPaths → (request : Request) (inv : Invalidation) → invalidation_of request ≡ Ok inv → IsHandle inv.handle
handle-of-request reads request inv e =
    field-handle reads (field_of request.heads (codes "cq-handle")) inv.handle (with-handle (requested_handle request) (requested_action request) (is_resource_only request) inv e)
