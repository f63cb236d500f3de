-- Requests for one page are asked of the publisher alike.
use Rattle.std.proofs.Common.{◌≡◌, ◌&&◌, ℕ, Bool, true, false, cond, List, [], Option, Some, None, option_and_then, codes, nat_eq, unwrap_or, refl, sym, ◌∙◌, ap}
use Rattle.std.specs.Cmp.Lexicographic.{pointwise, bytes_decides}
use Rattle.std.specs.Prelude.{if◌then◌else◌}
use Rattle.sp_base.specs.Fields.{field_of}
use Rattle.sp_base.specs.Paths.{mangled_segs, unmangled_segs}
use Rattle.sp_base.specs.Requests.{Request}
use Rattle.sp_base.specs.declared.answer.Ask.{Ask}
use Rattle.sp_base.proofs.BoolLemmas.{and_first}
use Rattle.any_config.specs.declared.farm.Farm.{Farm}
use Rattle.glob_rules.specs.Rules.{allows}
use Rattle.cover_rules.specs.declared.page.PageKey.{PageKey}
use Rattle.cover_rules.specs.Pages.{page_key_of, page_text}
use Rattle.dispatch_rules.specs.Asking.{publisher_ask, text_or_none}
use Rattle.dispatch_rules.specs.Caching.{allowed_key, cache_key, ignores, is_shared, may_keep}

-- a key that is found was tested
tested : (test : Bool) (found : Option PageKey) (key : PageKey) → cond test found None ≡ Some key → (test ≡ true) × (found ≡ Some key)
tested true found key h = (refl, h)
tested false found key h = absurd (cc (h))

allowed_is : (farm : Farm) (found key : PageKey) (test : Bool) → cond test (Some found) None ≡ Some key → found ≡ key
allowed_is farm found key true h = cc (h)
allowed_is farm found key false h = absurd (cc (h))

of_found : (farm : Farm) (found : Option PageKey) (key : PageKey) → option_and_then (allowed_key farm) found ≡ Some key → found ≡ Some key
of_found farm None key h = absurd (cc (h))
of_found farm (Some found) key h = ap (λ (k : PageKey). Some k) (allowed_is farm found key (allows farm.rules (page_text found)) h)

parts_of_key : (farm : Farm) (request : Request) (key : PageKey) → cache_key farm request ≡ Some key → (may_keep farm request ≡ true) × (option_and_then (allowed_key farm) (page_key_of request.path) ≡ Some key)
parts_of_key farm request key h = tested (may_keep farm request) (option_and_then (allowed_key farm) (page_key_of request.path)) key h

pub page_of : (farm : Farm) (request : Request) (key : PageKey) → cache_key farm request ≡ Some key → page_key_of request.path ≡ Some key
page_of farm request key h = of_found farm (page_key_of request.path) key (parts_of_key farm request key h).1

-- what is asked for a request with this method
asked_by : Farm → Request → List ℕ → Ask
asked_by farm request method = record {
  method = method;
  host = farm.ask_host;
  port = farm.ask_port;
  path = request.path;
  slash = request.slash;
  kind = if pointwise nat_eq method (codes "POST") then text_or_none (field_of request.heads (codes "content-type")) else [];
  body = if pointwise nat_eq method (codes "POST") then request.body else [];
}

-- what is asked for a GET
got : Farm → List (List ℕ) → Bool → Ask
got farm path slash = record { method = codes "GET"; host = farm.ask_host; port = farm.ask_port; path = path; slash = slash; kind = []; body = [] }

asked_as_get : (farm : Farm) (request : Request) (key : PageKey) → cache_key farm request ≡ Some key → publisher_ask farm request ≡ got farm request.path request.slash
unfolding asked_by got
asked_as_get farm request key h =
    let is_get = and_first (pointwise nat_eq request.method (codes "GET")) (is_shared farm request && ignores farm (unwrap_or request.query [])) (parts_of_key farm request key h).0 in
    ap (asked_by farm request) ((bytes_decides request.method (codes "GET")).0 is_get)

pub asked_alike : (farm : Farm) (a b : Request) (key : PageKey) → a.path ≡ b.path → cache_key farm a ≡ Some key → cache_key farm b ≡ Some key → publisher_ask farm b ≡ record (publisher_ask farm a) { slash = b.slash }
unfolding asked_by got
asked_alike farm a b key same ha hb =
    asked_as_get farm b key hb ∙ ap (λ (path : List (List ℕ)). got farm path b.slash) (sym same) ∙ ap (λ (ask : Ask). record ask { slash = b.slash }) (sym (asked_as_get farm a key ha))

-- an unmangled path is told by its mangled one
pub one_path : (a b : List (List ℕ)) → ((path : List (List ℕ)) → unmangled_segs (mangled_segs path) ≡ unmangled_segs path) → unmangled_segs a ≡ a → unmangled_segs b ≡ b → mangled_segs a ≡ mangled_segs b → a ≡ b
one_path a b back ua ub same = sym ua ∙ sym (back a) ∙ ap unmangled_segs same ∙ back b ∙ ub
