-- A group with its columns, field by field.
use Rattle.std.proofs.Common.{◌≡◌, ℕ, ◌+◌, List, [], length, sym, subst}
use Rattle.cla_layout.specs.declared.kind.Kind.{Kind}
use Rattle.cla_packed.specs.declared.fault.FieldName.TheVariants.{Width, Column}
use Rattle.cla_packed.specs.declared.fault.PackFault.{PackFault}
use Rattle.cla_packed.specs.Bodies.{Body}
use Rattle.cla_packed.specs.Fields.{Place, Read, field_at, list_at, then_at, as_at}
use Rattle.cla_packed.specs.Files.{PackedGroup, fits_width, fits_column, columns_of, kind_at, columns_at, body_at}
use Rattle.cla_packed.specs.Files.{group_of, group_at}
use Rattle.cla_pack_reader.specs.Places.{Places, Took, Refused}
use Rattle.cla_pack_reader.proofs.Steps.{Follows, took_view, refused_view, took_then, refused_first, refused_second}

-- the files tell one place behind two steps
follows_both : (b m r : Places) → Follows b m → Follows m r → Follows b r
follows_both b m r f g = record {
  there = λ p h. (let q = f.there p h in g.there q.0 q.1);
  same = f.same;
}

module _ (bits rows cols left group : ℕ) (before : List PackedGroup) where
  width_at : Place → Read ℕ
  width_at = field_at 4 (fits_width cols (columns_of before) left) group Width

  each_at : ℕ → Place → Read (List ℕ)
  each_at w = list_at (λ left so_far. field_at 4 (fits_column cols (columns_of before) so_far) group Column) w []

  all_columns_at : Place → Read (List ℕ)
  all_columns_at = columns_at group cols (columns_of before) left

  whole_body_at : Kind → List ℕ → Place → Read Body
  whole_body_at kind columns = body_at kind 8 bits group rows (length columns)

  after_kind : Kind → Place → Read (List ℕ × Body)
  after_kind kind = then_at all_columns_at (whole_body_at kind)

  all_at : Place → Read (Kind × (List ℕ × Body))
  all_at = then_at (kind_at group) after_kind

  numbered_at : ℕ → Place → Read PackedGroup
  numbered_at n p = as_at group_of (then_at (kind_at n)
      (λ kind. then_at (columns_at n cols (columns_of before) left)
      (λ columns. body_at kind 8 bits n rows (length columns)))) p

  module _ (is : length before + 1 ≡ group) (b : Places) where
    whole_refused : (e : PackFault) → Refused b all_at e → Refused b (group_at 8 bits rows cols left before) e
    unfolding all_columns_at whole_body_at after_kind all_at numbered_at
    whole_refused e bad =
        subst (λ (n : ℕ). Refused b (numbered_at n) e) (sym is) (refused_view group_of all_at b b e bad)

    pub no_kind : (e : PackFault) → Refused b (kind_at group) e → Refused b (group_at 8 bits rows cols left before) e
    unfolding all_at
    no_kind e bad = whole_refused e (refused_first (kind_at group) after_kind b b b e bad)

    module _ (m1 : Places) (kind : Kind) (f1 : Follows b m1) (took1 : Took b m1 (kind_at group) kind) where
      behind_kind : (e : PackFault) → Refused m1 (after_kind kind) e
          → Refused b (group_at 8 bits rows cols left before) e
      unfolding all_at
      behind_kind e bad = whole_refused e (refused_second (kind_at group) after_kind b m1 m1 kind e f1 took1 bad)

      bad_columns : (e : PackFault) → Refused m1 (then_at width_at each_at) e
          → Refused b (group_at 8 bits rows cols left before) e
      unfolding width_at each_at all_columns_at after_kind
      bad_columns e bad = behind_kind e (refused_first all_columns_at (whole_body_at kind) m1 m1 m1 e
          (refused_view (λ (x : ℕ × List ℕ). x.1) (then_at width_at each_at) m1 m1 e bad))

      pub no_width : (e : PackFault) → Refused m1 (field_at 4 (fits_width cols (columns_of before) left) group Width) e
          → Refused b (group_at 8 bits rows cols left before) e
      unfolding width_at
      no_width e bad = bad_columns e (refused_first width_at each_at m1 m1 m1 e bad)

      module _ (m2 : Places) (width : ℕ) (f2 : Follows m1 m2)
          (took2 : Took m1 m2 (field_at 4 (fits_width cols (columns_of before) left) group Width) width) where
        pub no_columns : (e : PackFault) → Refused m2
            (list_at (λ left so_far. field_at 4 (fits_column cols (columns_of before) so_far) group Column) width []) e
            → Refused b (group_at 8 bits rows cols left before) e
        unfolding width_at each_at
        no_columns e bad = bad_columns e (refused_second width_at each_at m1 m2 m2 width e f2 took2 bad)

        module _ (m3 : Places) (columns : List ℕ) (f3 : Follows m2 m3) (took3 : Took m2 m3
            (list_at (λ left so_far. field_at 4 (fits_column cols (columns_of before) so_far) group Column) width [])
            columns) (size : length columns ≡ width) where
          columns_took : Took m1 m3 all_columns_at columns
          unfolding width_at each_at all_columns_at
          columns_took = took_view (λ (x : ℕ × List ℕ). x.1) (then_at width_at each_at) m1 m3 (width, columns)
              (took_then width_at each_at m1 m2 m3 width columns took2 took3)

          pub no_body : (e : PackFault) → Refused m3 (body_at kind 8 bits group rows width) e
              → Refused b (group_at 8 bits rows cols left before) e
          unfolding whole_body_at after_kind
          no_body e bad = behind_kind e (refused_second all_columns_at (whole_body_at kind) m1 m3 m3 columns e
              (follows_both m1 m2 m3 f2 f3) columns_took
              (subst (λ (n : ℕ). Refused m3 (body_at kind 8 bits group rows n) e) (sym size) bad))

          pub group_took : (a : Places) (body : Body) → Took m3 a (body_at kind 8 bits group rows width) body
              → Took b a (group_at 8 bits rows cols left before)
              (record { kind = kind; columns = columns; body = body })
          unfolding all_columns_at whole_body_at after_kind all_at numbered_at
          group_took a body took =
              subst (λ (n : ℕ). Took b a (numbered_at n) (record { kind = kind; columns = columns; body = body }))
              (sym is) (took_view group_of all_at b a (kind, (columns, body))
              (took_then (kind_at group) after_kind b m1 a kind (columns, body) took1
              (took_then all_columns_at (whole_body_at kind) m1 m3 a columns body columns_took
              (subst (λ (n : ℕ). Took m3 a (body_at kind 8 bits group rows n) body) (sym size) took))))
