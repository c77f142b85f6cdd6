-- What stands at each place of a field that is written, with its acts behind it. Assumes nothing.
use Rattle.std.proofs.Common.{◌≡◌, ℕ, ◌+◌, ◌*◌, List, [], ◌++◌, length, take, drop, Some, sym, refl, ap, ◌∙◌, subst, zero-add, arith, length-append}
use Rattle.std.specs.List.{slice_get}
use Rattle.std.proofs.Math.Seq.{take-append_seam, drop-append_seam}
use Rattle.std.proofs.lemmas.Option.{slice_get_within}
use Rattle.field.specs.declared.Act.{Act}
use Rattle.field.specs.declared.Act.TheVariants.{Play, Damage as Damages}
use Rattle.field.specs.declared.Link.{Link as Linked}
use Rattle.field.specs.declared.Loss.{Loss as Lost}
use Rattle.field.specs.declared.Row.{Row}
use Rattle.field.specs.declared.Settings.{Settings}
use Rattle.page.specs.Pages.{joined}
use Rattle.recording.specs.Records.{head_record, row_record, link_record, loss_record, act_record}
use Rattle.loading.proofs.Joins.{Stands, alone, before, behind, joined_long, joined_stands}

-- the texts of items are records, alone and with more behind them
pub record Records {A : Type 0} (text : ℕ → A → List ℕ) (items : List A) (back : List ℕ) : Type 0 where
  pub alone_long : length (joined text 0 items) ≡ 12 * length items
  pub alone_item : (i : ℕ) (x : A) → slice_get items i ≡ Some x → Stands (joined text 0 items) i (text i x)
  pub long : length (joined text 0 items ++ back) ≡ 12 * length items + length back
  pub item : (i : ℕ) (x : A) → slice_get items i ≡ Some x → Stands (joined text 0 items ++ back) i (text i x)
  pub past : (i : ℕ) (t : List ℕ) → Stands back i t → Stands (joined text 0 items ++ back) (length items + i) t
  pub front : take (12 * length items) (joined text 0 items ++ back) ≡ joined text 0 items
  pub rest : drop (12 * length items) (joined text 0 items ++ back) ≡ back

pub records_of : {A : Type 0} (text : ℕ → A → List ℕ) → ((place : ℕ) (x : A) → length (text place x) ≡ 12) → (items : List A) (back : List ℕ) → Records text items back
records_of {A} text twelve items back =
    let front = joined text 0 items in
    let many = joined_long text twelve 0 items in
    let here : (i : ℕ) (x : A) → slice_get items i ≡ Some x → Stands front i (text i x) = λ i x there. subst (λ (k : ℕ). Stands front i (text k x)) (zero-add i) (joined_stands text twelve 0 items i x there) in
    record {
      alone_long = many;
      alone_item = here;
      long = length-append front back ∙ omega arith;
      item = λ i x there. before front back (length items) i (text i x) many (slice_get_within items i x there) (here i x there);
      past = λ i t there. behind front back (length items) i t many there;
      front = ap (λ (n : ℕ). take n (front ++ back)) (sym many) ∙ take-append_seam front back;
      rest = ap (λ (n : ℕ). drop n (front ++ back)) (sym many) ∙ drop-append_seam front back;
    }

act_twelve : {Num : Type 0} (worth : Num → ℕ) (place : ℕ) (act : Act Num) → length (act_record worth act) ≡ 12
act_twelve worth place (Play budget) = refl
act_twelve worth place (Damages damage) = refl

module _ {Num : Type 0} (worth : Num → ℕ) (rows : List (Row Num)) (links : List Linked) (losses : List Lost) (acts : List (Act Num)) where
  -- the texts of a field's parts, each with all that follows it
  abbrev pub acts_on : List ℕ
  acts_on = joined (λ place. act_record worth) 0 acts ++ []

  abbrev pub losses_on : List ℕ
  losses_on = joined (λ place. loss_record) 0 losses ++ acts_on

  abbrev pub links_on : List ℕ
  links_on = joined (λ place. link_record) 0 links ++ losses_on

  abbrev pub rows_on : List ℕ
  rows_on = joined (row_record worth) 0 rows ++ links_on

  pub rows_records : Records (row_record worth) rows links_on
  rows_records = records_of (row_record worth) (λ place row. refl) rows links_on

  pub links_records : Records (λ place. link_record) links losses_on
  links_records = records_of (λ place. link_record) (λ place link. refl) links losses_on

  pub losses_records : Records (λ place. loss_record) losses acts_on
  losses_records = records_of (λ place. loss_record) (λ place loss. refl) losses acts_on

  pub acts_records : Records (λ place. act_record worth) acts []
  acts_records = records_of (λ place. act_record worth) (act_twelve worth) acts []

  module _ (code smax : ℕ) (s : Settings) where
    -- where each record stands in a file
    pub record Laid (file : List ℕ) : Type 0 where
      pub long : length file ≡ 12 * (1 + (length rows + (length links + (length losses + length acts))))
      pub head : Stands file 0 (head_record code smax s)
      pub row : (i : ℕ) (x : Row Num) → slice_get rows i ≡ Some x → Stands file (1 + i) (row_record worth i x)
      pub link : (i : ℕ) (x : Linked) → slice_get links i ≡ Some x → Stands file (1 + (length rows + i)) (link_record x)
      pub loss : (i : ℕ) (x : Lost) → slice_get losses i ≡ Some x → Stands file (1 + (length rows + (length links + i))) (loss_record x)
      pub act : (i : ℕ) (x : Act Num) → slice_get acts i ≡ Some x → Stands file (1 + (length rows + (length links + (length losses + i)))) (act_record worth x)

    abbrev pub laid : List ℕ
    laid = head_record code smax s ++ rows_on

    pub is_laid : Laid laid
    is_laid =
        let front = head_record code smax s in
        let past_head : (i : ℕ) (t : List ℕ) → Stands rows_on i t → Stands laid (1 + i) t = λ i t there. behind front rows_on 1 i t refl there in
        let past_rows : (i : ℕ) (t : List ℕ) → Stands links_on i t → Stands laid (1 + (length rows + i)) t = λ i t there. past_head (length rows + i) t (rows_records.past i t there) in
        let past_links : (i : ℕ) (t : List ℕ) → Stands losses_on i t → Stands laid (1 + (length rows + (length links + i))) t = λ i t there. past_rows (length links + i) t (links_records.past i t there) in
        let r = rows_records.long in
        let l = links_records.long in
        let x = losses_records.long in
        let a = acts_records.long in
        record {
          long = length-append front rows_on ∙ omega arith;
          head = before front rows_on 1 0 front refl (omega arith) (alone front);
          row = λ i x there. past_head i (row_record worth i x) (rows_records.item i x there);
          link = λ i x there. past_rows i (link_record x) (links_records.item i x there);
          loss = λ i x there. past_links i (loss_record x) (losses_records.item i x there);
          act = λ i x there. past_links (length losses + i) (act_record worth x) (losses_records.past i (act_record worth x) (acts_records.item i x there));
        }
