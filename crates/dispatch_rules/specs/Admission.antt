-- Which requests are admitted (Adobe Dispatcher manual, "Configuring Access to Content"): those to a host of the farm that the filter allows.
use Rattle.std.specs.Prelude.{◌==◌, ◌&&◌, ℕ, Bool, true, if◌then◌else◌, List, [], Option, Some, None, length, unwrap_or}
use Rattle.std.specs.List.{list_any}
use Rattle.std.specs.Str.{chars, str_to_ascii_lowercase}
use Rattle.std.specs.Str.Lossy.{utf8_lossy}
use Rattle.sp_base.specs.Requests.{Request}
use Rattle.sp_base.specs.Paths.{text_of}
use Rattle.glob_rules.specs.Globs.{is_match}
use Rattle.glob_rules.specs.Rules.{decision}
use Rattle.regex_rules.specs.Trees.{tree_of}
use Rattle.regex_rules.specs.Languages.{in_language}
use Rattle.any_config.specs.declared.farm.Farm.{Farm}
use Rattle.any_config.specs.declared.farm.Filter.{Filter}
use Rattle.any_config.specs.declared.farm.Test.{Test}
use Rattle.any_config.specs.declared.farm.Test.TheVariants as test
use Rattle.any_config.specs.declared.farm.VirtualHost.{VirtualHost}
use Rattle.dispatch_rules.specs.UrlParts.{stem, selectors, extension, suffix}

-- the host that a request asks for, in lower case, and its port: those of the farm where the request names none
abbrev pub request_host : Farm → Request → List ℕ
request_host farm req = str_to_ascii_lowercase (if length req.host == 0 then farm.ask_host else req.host)

-- the port that a request asks for: that of the farm where the request names no host
abbrev pub request_port : Farm → Request → ℕ
request_port farm req = if length req.host == 0 then farm.ask_port else req.port

-- a host without a port serves any
abbrev pub has_port : Option ℕ → ℕ → Bool
has_port None port = true
has_port (Some own) port = own == port

-- the host of a farm is this host and port
abbrev pub serves : List ℕ → ℕ → VirtualHost → Bool
serves host port served = is_match served.name (chars host) && has_port served.port port

-- a host of the farm is the one that the request asks for, with its port
abbrev pub is_served : Farm → Request → Bool
is_served farm req = list_any (serves (request_host farm req) (request_port farm req)) farm.hosts

-- a test holds for a part of the request: a glob matches the whole of it, and a pattern has the whole of it in its language
abbrev pub holds_for : Test → List ℕ → Bool
holds_for (test.Glob glob) text = is_match glob (chars text)
holds_for (test.Pattern pattern) text = in_language (tree_of pattern) (chars text)

-- a test of an entry fits a part of the request; one that the entry lacks fits any
abbrev pub fits : Option Test → List ℕ → Bool
fits None text = true
fits (Some own) text = holds_for own text

-- the query as it came, where what is no UTF-8 is the replacement character
abbrev pub request_query : Request → List ℕ
request_query req = utf8_lossy (unwrap_or req.query [])

-- each test that a filter entry has fits its part of the request
abbrev pub applies : Request → Filter → Bool
applies req entry = fits entry.request_line req.line && (fits entry.method req.method && (fits entry.url (text_of req.path) && (fits entry.path (stem (text_of req.path))
    && (fits entry.selectors (selectors (text_of req.path)) && (fits entry.extension (extension (text_of req.path)) && (fits entry.suffix (suffix (text_of req.path)) && fits entry.query (request_query req)))))))

-- a host of the farm is asked, and the filter allows the request
abbrev pub admits : Farm → Request → Bool
admits farm req = is_served farm req && decision (applies req) (λ entry. entry.allow) farm.filter
