-- The parts of a request that a filter entry asks about. Only proofs and private functions need this.
use Rattle.std.specs.Prelude.{◌&&◌, Bool}
use Rattle.any_config.specs.declared.farm.Filter.{Filter}
use Rattle.dispatch_rules.specs.declared.filter.RequestParts.{RequestParts}
use Rattle.dispatch_rules.specs.Admission.{fits}

-- the entry applies to a request with these parts
abbrev pub applies_to : RequestParts → Filter → Bool
applies_to seen entry = fits entry.request_line seen.line.now && (fits entry.method seen.method.now && (fits entry.url seen.url.now && (fits entry.path seen.path.now
    && (fits entry.selectors seen.selectors.now && (fits entry.extension seen.extension.now && (fits entry.suffix seen.suffix.now && fits entry.query seen.query.now))))))
