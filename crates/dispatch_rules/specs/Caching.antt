-- Which answers may be kept, and under which key (Adobe Dispatcher manual, "Specifying the Documents to Cache").
use Rattle.std.specs.Prelude.{◌==◌, ◌&&◌, ◌||◌, ℕ, Bool, true, false, is_none, nat_eq, if◌then◌else◌, List, [], Option, Some, None, codes, unwrap_or, option_and_then}
use Rattle.std.specs.List.{list_all}
use Rattle.std.specs.Cmp.Lexicographic.{pointwise}
use Rattle.std.specs.Str.Lossy.{utf8_lossy}
use Rattle.sp_base.specs.Requests.{Request}
use Rattle.sp_base.specs.declared.answer.Answer.{Answer}
use Rattle.sp_base.specs.declared.answer.Mark.{Mark}
use Rattle.sp_base.specs.declared.answer.Mark.TheVariants.{Plain}
use Rattle.sp_base.specs.Fields.{field_of}
use Rattle.form_urlencoded.specs.Form.{raw_pairs, decode}
use Rattle.glob_rules.specs.Rules.{allows}
use Rattle.any_config.specs.declared.farm.Farm.{Farm}
use Rattle.cover_rules.specs.declared.page.PageKey.{PageKey}
use Rattle.cover_rules.specs.Pages.{page_key_of, page_text}

-- the answer depends on none of the query's parameters: the farm ignores the name of each
abbrev pub ignores : Farm → List ℕ → Bool
ignores farm query = list_all (λ pair. allows farm.ignored (utf8_lossy (decode pair.0))) (raw_pairs query)

-- the answer isn't for one client alone, or the farm keeps such answers
abbrev pub is_shared : Farm → Request → Bool
is_shared farm req = farm.authorized || is_none (field_of req.heads (codes "authorization"))

-- the method is GET, the answer may be shared, and it depends on no parameter of the query
abbrev pub may_keep : Farm → Request → Bool
may_keep farm req = pointwise nat_eq req.method (codes "GET") && (is_shared farm req && ignores farm (unwrap_or req.query []))

-- the rules allow the text of the page's path, as it is mangled
abbrev pub allowed_key : Farm → PageKey → Option PageKey
allowed_key farm key = if allows farm.rules (page_text key) then Some key else None

-- the key under which the answer to a request may be kept
abbrev pub cache_key : Farm → Request → Option PageKey
cache_key farm req = if may_keep farm req then option_and_then (allowed_key farm) (page_key_of req.path) else None

-- .stat files outdate the page
abbrev pub is_auto : Farm → PageKey → Bool
is_auto farm key = allows farm.auto (page_text key)

-- the answer is not marked
abbrev pub is_plain_mark : Mark → Bool
is_plain_mark Plain = true
is_plain_mark _ = false

-- an answer with status 200 and no mark
abbrev pub is_storable : Answer → Bool
is_storable answer = answer.status == 200 && is_plain_mark answer.mark
