use Rattle.std.proofs.Common.{◌≡◌, true, ◌≤◌, ◌++◌, ◌∷◌, [], List, ℕ, length, take, cond, map, sym, ◌∙◌, ap, subst, arith}
use Rattle.std.specs.Prelude.{IsUtf8, string_bytes}
use Rattle.std.specs.List.{All, filter}
use Rattle.std.specs.Map.Iter.{deref_pair}
use Rattle.std.proofs.lemmas.Map.Iter.{rest_so_far, iter_end}
use Rattle.std.proofs.lemmas.List.{length-append}
use Rattle.std.proofs.lemmas.Str.Pattern.{starts_text}
use Rattle.std.specs.FinMap.{keys}
use Rattle.sp_outside.specs.Files.{IsListing, IsName, has_prefix, names_from}
use Rattle.sp_outside.specs.NameEntries.{kept_by_name}
use Rattle.sp_outside.proofs.Listing.{after_held, enough, all_names, lacking, one_more, listing, keys_held, sizes_held, texts_held}
use Rattle.sp_outside.proofs.names.Names.list.Goals as goal
use Rattle.sp_outside.proofs.names.Names.list.Goals.{in-None, in-Some+then-len-most, then-len-most-via-then-len-most, then-len-most-via-else-len-most+then-not-starts_with}

pub loop-name-preserved : goal.loop-name-preserved
loop-name-preserved g c =
    let prefix = c.args.prefix.now in
    let names = c.loop-name.names in
    let name = string_bytes c.in-Some.name.now in
    let has : has_prefix prefix name ≡ true = ap (has_prefix prefix) (sym c.deref.ensures)
    ∙ sym (starts_text c.starts_with.result prefix c.deref.result.now c.starts_with.ensures.cases) ∙ c.if-not-starts_with.false in
    let grown : c.push.new.self ≡ names ++ name ∷ [] = c.in_ok-push.ensures.ok ∙ ap (λ n. names ++ n ∷ []) (c.in_ok-of.ensures ∙ c.as_str.ensures.value) in
    record {
      names = grown ∙ sym (one_more prefix c.loop-name.yielded (c.in-Some.name, c.in-Some.field-0-1) names c.loop-name.invariant.names
          ∙ ap (λ b. cond b (names ++ name ∷ []) names) has);
      few = subst (λ (ns : List (List ℕ)). length ns ≤ c.args.most) (sym grown)
          (omega (arith, length-append names (name ∷ []), c.if-len-most.false, c.len.ensures));
    }

-- what was found, by the files as they are held
found : (g : _) (c : goal.Joined-next g) → c.loop-name.names ≡ take c.args.most (names_from (keys (kept_by_name c.self.inside.held.entries)) c.args.prefix.now c.args.after.now)
found g c =
    let held = c.self.inside.held.entries in
    let range = c.range-name-items.result in
    let start = c.into_iter-name-iterator.ensures.into_iter_gives in
    let prefix = c.args.prefix.now in
    let after = c.args.after.now in
    let place = c.in_ok-start.start in
    let ranges = c.range-name-items.ensures.between tt in
    let so_far = sym start ∙ rest_so_far deref_pair c.loop-name.yielded _ _ c.loop-name.yielded_by in
    elim c.match-next.branch as (λ _. c.loop-name.names ≡ take c.args.most (filter (has_prefix prefix) (map (λ e. string_bytes e.0) range))) [
      | in-None w ↦ all_names prefix range c.loop-name.yielded c.loop-name.names c.args.most
          (iter_end deref_pair range c.loop-name.yielded _ _ _ _ start c.loop-name.yielded_by w.in-None.is c.next.ensures.steps).0
          c.loop-name.invariant.names c.loop-name.invariant.few
      | in-Some+then-len-most w ↦ elim w.then-len-most.branch as (λ _. c.loop-name.names ≡ take c.args.most (filter (has_prefix prefix) (map (λ e. string_bytes e.0) range))) [
        | then-len-most-via-then-len-most v ↦ enough prefix range c.loop-name.name-iterator c.loop-name.yielded c.loop-name.names c.args.most
            so_far c.loop-name.invariant.names c.loop-name.invariant.few (omega (arith, v.if-len-most.true, w.len.ensures))
        | then-len-most-via-else-len-most+then-not-starts_with v ↦ lacking prefix after place held range c.loop-name.yielded
            (deref_pair (w.in-Some.name, w.in-Some.field-0-1)) _ c.loop-name.names c.args.most
            c.self.invariant.rising c.in_ok-start.ensures ranges
            (so_far ∙ ap (λ rest. map deref_pair c.loop-name.yielded ++ rest) w.in-Some.ensures.steps)
            (ap (has_prefix prefix) (sym v.deref.ensures) ∙ sym (starts_text v.starts_with.result prefix v.deref.result.now v.starts_with.ensures.cases) ∙ v.if-not-starts_with.true)
            c.loop-name.invariant.names c.loop-name.invariant.few
      ]
    ]
    ∙ ap (take c.args.most) (sym (after_held prefix after place held range c.self.invariant.rising c.in_ok-start.ensures ranges))

pub returns-clause-value : goal.returns-clause-value
returns-clause-value g c =
    found g c ∙ ap (λ kept. take c.args.most (names_from (keys kept) c.args.prefix.now c.args.after.now)) c.self.view_is

pub returns-clause-names : goal.returns-clause-names
returns-clause-names g c =
    let held = c.self.inside.held.entries in
    subst (IsListing c.args.prefix.now c.args.after.now c.args.most) (sym (found g c))
    (listing (kept_by_name held) c.args.prefix.now c.args.after.now c.args.most
    (subst (All IsName) (sym (keys_held held c.self.invariant.rising)) (sizes_held held c.self.invariant.sizes))
    (subst (All IsUtf8) (sym (keys_held held c.self.invariant.rising)) (texts_held held)))
