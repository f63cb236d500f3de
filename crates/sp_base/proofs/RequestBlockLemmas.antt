-- What a block holds once its parts are written one after another.
use Rattle.std.proofs.Common.{◌≡◌, ◌<◌, refl, ◌∙◌, ◌≤◌, ◌-◌, ◌++◌, ℕ, List, [], ◌∷◌, Option, Some, None, length, length-append, take, drop, sym, ap, subst, length-drop, arith, append_assoc}
use Rattle.std.specs.Prelude.{option_copied, All, IsUtf8, slice_range, unwrap_or}
use Rattle.std.specs.Borrow.{Bor}
use Rattle.std.proofs.lemmas.Str.{IsUtf8-append, IsUtf8-from_ascii}
use Rattle.std.proofs.lemmas.Str.Ascii.{IsAscii-from_all}
use Rattle.std.proofs.lemmas.List.Elements.{All-cons}
use Rattle.std.specs.Option.{is_some}
use Rattle.std.proofs.Math.Seq.{take-append_seam, drop-append_seam}
use Rattle.std.proofs.lemmas.List.{take-append-le, drop-append-le, take_all}
use Rattle.sp_base.specs.declared.field.FieldSpan.{FieldSpan}
use Rattle.sp_base.specs.declared.request.BlockEnds.{BlockEnds}
use Rattle.sp_base.specs.declared.request.LentHead.{LentHead}
use Rattle.sp_base.specs.Fields.{IsFieldWithin}
use Rattle.sp_base.specs.Requests.{version_text}
use Rattle.sp_base.specs.RequestBlocks.{host_in_block, query_in, ArePushed, IsLaidOut}

-- what stands between
middle : (xs ys : List ℕ) → slice_range (xs ++ ys) (length xs) (length (xs ++ ys)) ≡ ys
middle xs ys =
    let long : length (xs ++ ys) - length xs ≡ length ys = omega (arith, length-append xs ys) in
    ap (λ l. take (length (xs ++ ys) - length xs) l) (drop-append_seam xs ys) ∙ ap (λ n. take n ys) long ∙ take_whole ys
  where
    take_whole : (l : List ℕ) → take (length l) l ≡ l
    take_whole l = take_all (length l) l (omega arith)

-- a range of what was written stays, whatever is written after it
range_stays : (xs ys : List ℕ) (a b : ℕ) → a ≤ b → b ≤ length xs → slice_range (xs ++ ys) a b ≡ slice_range xs a b
range_stays xs ys a b order fits =
    let short : b - a ≤ length (drop a xs) = omega (arith, length-drop a xs, order, fits) in
    ap (λ l. take (b - a) l) (drop-append-le a xs ys (omega (arith, order, fits))) ∙ take-append-le (b - a) (drop a xs) ys short

-- the block of a request lies as it has to, once the bytes of its fields are written after its parts
pub laid_out : (block bytes all : List ℕ) (ends : BlockEnds) (head : LentHead) (fields : List FieldSpan) → ArePushed block ends head → all ≡ block ++ bytes
    → All (IsFieldWithin (length bytes)) fields → IsLaidOut all ends fields
laid_out block bytes all ends head fields pushed is within =
    let line_in : ends.line ≤ length block = omega (arith, pushed.line_fits, pushed.host_fits, pushed.ends_there) in
    let method_in : ends.method ≤ length block = omega (arith, pushed.method_fits, line_in) in
    subst (λ l. IsLaidOut l ends fields) (sym is) (record {
      method_fits = pushed.method_fits;
      line_fits = pushed.line_fits;
      host_fits = pushed.host_fits;
      query_fits = omega (arith, length-append block bytes, pushed.ends_there);
      fields_fit = subst (λ (l : List ℕ). All (IsFieldWithin (length l)) fields) (sym (rest block bytes ends.query pushed.ends_there)) within;
      method_is_text = subst IsUtf8 (sym (take-append-le ends.method block bytes method_in)) pushed.method_is_text;
      line_is_text = subst IsUtf8 (sym (take-append-le ends.line block bytes line_in)) pushed.line_is_text;
      host_is_text = subst IsUtf8 (sym (range_stays block bytes ends.line ends.host pushed.line_fits (omega (arith, pushed.host_fits, pushed.ends_there)))) pushed.host_is_text;
    })
  where
    rest : (block bytes : List ℕ) (n : ℕ) → n ≡ length block → drop n (block ++ bytes) ≡ bytes
    rest block bytes n e = ap (λ k. drop k (block ++ bytes)) e ∙ drop-append_seam block bytes

-- what stands between, of lists under other names
between : (xs ys all : List ℕ) → all ≡ xs ++ ys → slice_range all (length xs) (length all) ≡ ys
between xs ys all e = ap (λ (l : List ℕ). slice_range l (length xs) (length l)) e ∙ middle xs ys

-- what stands in front
front : (xs ys all : List ℕ) → all ≡ xs ++ ys → take (length xs) all ≡ xs
front xs ys all e = ap (take (length xs)) e ∙ take-append_seam xs ys

longer : (xs ys all : List ℕ) → all ≡ xs ++ ys → length xs ≤ length all
longer xs ys all e = omega (arith, ap length e ∙ length-append xs ys)

-- the line that was written
line_of : (method target version one two line : List ℕ) → one ≡ method ++ 32 ∷ [] → two ≡ one ++ target → line ≡ two ++ version → line ≡ method ++ 32 ∷ (target ++ version)
line_of method target version one two line a b c =
    c ∙ ap (λ (l : List ℕ). l ++ version) (b ∙ ap (λ (l : List ℕ). l ++ target) a ∙ append_assoc method (32 ∷ []) target) ∙ append_assoc method (32 ∷ target) version

-- what the query is, where it was written if it was there
written : (block : List ℕ) (ends : BlockEnds) (query : Option (Bor (List ℕ))) → ends.has_query ≡ is_some query → slice_range block ends.host ends.query ≡ unwrap_or (option_copied query) []
    → query_in block ends ≡ option_copied query
written block ends None has is = rw has refl
written block ends (Some query) has is = rw has (ap Some is)

-- the parts of a head, once they are written one after another
pub pushed : (head : LentHead) (one two three line hosted block query version : List ℕ) (ends : BlockEnds) → one ≡ [] ++ head.method.now → two ≡ one ++ 32 ∷ [] → three ≡ two ++ head.target.now
    → line ≡ three ++ version → version ≡ version_text head.minor → hosted ≡ line ++ head.host.now → block ≡ hosted ++ query
    → ends.method ≡ length head.method.now → ends.line ≡ length line → ends.host ≡ length hosted → ends.query ≡ length block
    → IsUtf8 head.method.now → IsUtf8 head.target.now → IsUtf8 version → IsUtf8 head.host.now → ends.has_query ≡ is_some head.query → query ≡ unwrap_or (option_copied head.query) []
    → ArePushed block ends head
pushed head one two three line hosted block query version ends a b c d v f g m l h q method_text target_text version_text host_text has query_is =
    let method = head.method.now in
    let target = head.target.now in
    let said = line_of method target version two three line (b ∙ ap (λ (l : List ℕ). l ++ 32 ∷ []) a) c d in
    let whole : block ≡ line ++ (head.host.now ++ query) = g ∙ ap (λ (l : List ℕ). l ++ query) f ∙ append_assoc line head.host.now query in
    let deep : block ≡ method ++ (32 ∷ (target ++ version) ++ (head.host.now ++ query)) =
    whole ∙ ap (λ (l : List ℕ). l ++ (head.host.now ++ query)) said ∙ append_assoc method (32 ∷ (target ++ version)) (head.host.now ++ query) in
    let method_is : take ends.method block ≡ method = ap (λ n. take n block) m ∙ front method _ block deep in
    let line_is : take ends.line block ≡ line = ap (λ n. take n block) l ∙ front line _ block whole in
    let host_long = longer line head.host.now hosted f in
    let host_is : host_in_block block ends ≡ head.host.now =
    (λ i. slice_range block (l i) (h i)) ∙ ap (λ (b : List ℕ). slice_range b (length line) (length hosted)) g ∙ range_stays hosted query (length line) (length hosted) host_long (omega arith)
    ∙ between line head.host.now hosted f in
    let query_bytes : slice_range block ends.host ends.query ≡ query = (λ i. slice_range block (h i) (q i)) ∙ between hosted query block g in
    record {
      method_is = method_is;
      line_is = line_is ∙ said ∙ ap (λ (w : List ℕ). method ++ 32 ∷ (target ++ w)) v;
      host_is = host_is;
      method_is_text = subst IsUtf8 (sym method_is) method_text;
      line_is_text = subst IsUtf8 (sym (line_is ∙ said)) (IsUtf8-append method _ method_text (IsUtf8-append (32 ∷ []) (target ++ version) space (IsUtf8-append target version target_text version_text)));
      host_is_text = subst IsUtf8 (sym host_is) host_text;
      query_is = written block ends head.query has (query_bytes ∙ query_is);
      method_fits = omega (arith, m, l, ap length said ∙ length-append method (32 ∷ (target ++ version)));
      line_fits = omega (arith, l, h, host_long);
      host_fits = omega (arith, h, q, longer hosted query block g);
      ends_there = q;
    }
  where
    space : IsUtf8 (32 ∷ [])
    space = IsUtf8-from_ascii (32 ∷ []) (IsAscii-from_all (32 ∷ []) (All-cons (λ b. b < 128) 32 [] (omega arith) (λ i d less. absurd (omega (arith, less)))))
