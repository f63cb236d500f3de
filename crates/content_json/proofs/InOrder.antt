-- What is read has the members of each object in the order of their names, each once.
use Rattle.std.proofs.Common.{◌≡◌, ℕ, true, false, List, Option, Some, None, option_map, if◌then◌else◌, refl, subst}
use Rattle.std.proofs.lemmas.Option.{same_Some}
use Rattle.std.specs.Prelude.{⊤, option_and_then}
use Rattle.std.specs.Ordering.{match_ordering}
use Rattle.std.specs.declared.cmp.Ordering.TheVariants.{Less, Equal, Greater}
use Rattle.std.specs.Str.{is_utf8}
use Rattle.json.specs.Json as json
use Rattle.json.specs.Lex.{tokens}
use Rattle.serde_json.specs.Data.{Data, null, boolean, number, string, array, object, Members, no_members, member, put}
use Rattle.serde_json.specs.Read.{of_json, of_items, of_members, number_of, read, max_depth}
use Rattle.sp_base.specs.Names.{by_name}
use Rattle.content_json.specs.ContentOf.{json_of}
use Rattle.content_json.specs.Members.{AreSorted}
use Rattle.content_json.proofs.InsertLemmas.{sorted-put}

abbrev mutual
  pub IsInOrder : Data → Type 0
  IsInOrder null = ⊤
  IsInOrder (boolean b) = ⊤
  IsInOrder (number n) = ⊤
  IsInOrder (string s) = ⊤
  IsInOrder (array ds) = ⊤
  IsInOrder (object ms) = AreSorted ms × AreInOrder ms

  pub AreInOrder : Members → Type 0
  AreInOrder no_members = ⊤
  AreInOrder (member k d ms) = IsInOrder d × AreInOrder ms

in_order-put : (k : List ℕ) (d : Data) (ms : Members) → IsInOrder d → AreInOrder ms → AreInOrder (put k d ms)
in_order-put k d no_members p h = (p, tt)
in_order-put k d (member l e ms) p h =
    elim (by_name k l) as (λ o. AreInOrder (match_ordering o (member k d (member l e ms)) (member l d ms) (member l e (put k d ms)))) [
      | Less ↦ (p, h)
      | Equal ↦ (p, h.1)
      | Greater ↦ (h.0, in_order-put k d ms p h.1)
    ]

mutual
  in_order_of : (j : json.Json) (d : Data) → of_json j ≡ Some d → IsInOrder d
  in_order_of json.null d h = subst IsInOrder (same_Some null d h) tt
  in_order_of (json.boolean b) d h = subst IsInOrder (same_Some (boolean b) d h) tt
  in_order_of (json.number s) d h = elim (number_of s) as (λ o. option_map number o ≡ Some d → IsInOrder d) [
    | None ↦ λ e. absurd (cc)
    | Some n ↦ λ e. subst IsInOrder (same_Some (number n) d e) tt
  ] h
  in_order_of (json.string s) d h = subst IsInOrder (same_Some (string s) d h) tt
  in_order_of (json.array js) d h = elim (of_items js) as (λ o. option_map array o ≡ Some d → IsInOrder d) [
    | None ↦ λ e. absurd (cc)
    | Some ds ↦ λ e. subst IsInOrder (same_Some (array ds) d e) tt
  ] h
  in_order_of (json.object ms) d h = elim (of_members ms no_members) as (λ o. of_members ms no_members ≡ o → option_map object o ≡ Some d → IsInOrder d) [
    | None ↦ λ _ e. absurd (cc)
    | Some found ↦ λ is e. subst IsInOrder (same_Some (object found) d e) (in_order_members ms no_members found tt tt is)
  ] refl h

  in_order_members : (ms : json.Members) (start found : Members) → AreSorted start → AreInOrder start → of_members ms start ≡ Some found → AreSorted found × AreInOrder found
  in_order_members json.no_members start found s h e = let same : start ≡ found = cc in (subst AreSorted same s, subst AreInOrder same h)
  in_order_members (json.member k j ms) start found s h e =
      elim (of_json j) as (λ o. of_json j ≡ o → option_and_then (λ d. of_members ms (put k d start)) o ≡ Some found → AreSorted found × AreInOrder found) [
        | None ↦ λ _ g. absurd (cc)
        | Some d ↦ λ is g. in_order_members ms (put k d start) found (sorted-put k d start s) (in_order-put k d start (in_order_of j d is) h) g
      ] refl e

in_order_from : (o : Option json.Json) (d : Data) → option_and_then of_json o ≡ Some d → IsInOrder d
in_order_from None d h = absurd (cc)
in_order_from (Some j) d h = in_order_of j d h

pub in_order_text : (text : List ℕ) (d : Data) → read text ≡ Some d → IsInOrder d
in_order_text text d h = in_order_from (option_and_then (λ p. json.if_last p.0 p.1) (json.value max_depth (tokens text))) d h

pub in_order_read : (bytes : List ℕ) (d : Data) → json_of bytes ≡ Some d → IsInOrder d
in_order_read bytes d h = elim (is_utf8 bytes) as (λ t. (if t then read bytes else None) ≡ Some d → IsInOrder d) [
  | true ↦ λ e. in_order_text bytes d e
  | false ↦ λ e. absurd (cc)
] h
