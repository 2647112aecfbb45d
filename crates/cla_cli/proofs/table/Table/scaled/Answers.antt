use Rattle.std.proofs.Common.{◌≡◌, ◌∷◌, [], ℕ, List, Ok, refl, sym, subst, ◌*◌, ◌∙◌, length, arith}
use Rattle.cla_coded.specs.AnyGroups.{any_codes, any_dictionary}
use Rattle.cla_meaning.specs.Counts.{HasMaps, HasMapsUpTo}
use Rattle.cla_cli.proofs.TableLaws.{times, cells_are, cells_few, few_maps, chain_fault_is, chained_is, refused_is}
use Rattle.cla_cli.proofs.TableLaws.{ChainsTo}
use Rattle.cla_cli.proofs.table.Table.scaled.Goals as goal

-- one step makes an evaluation of each value
evaluations : {S : Type 0} (steps : List S) (step : S) (values cells : ℕ) → steps ≡ step ∷ [] → values ≡ cells
    → values * length steps ≡ cells
evaluations steps step values cells are same = rw (are, same) (omega arith)

pub returns-in-Ok-map_chain-clause-product : goal.returns-in-Ok-map_chain-clause-product
returns-in-Ok-map_chain-clause-product g c =
    let bits = g.N.Number.BITS in
    let t = c.self.inside.coded in
    let k = g.N.Number.value c.args.k in
    let maps =
    subst (ChainsTo bits g.N.Number.value any_codes any_dictionary t (Ok c.in-Ok-map_chain.coded) c.args.meter.now
    c.map_chain.new.meter)
    (c.deref.ensures.value ∙ c.in-Ok.ensures) c.in-Ok-map_chain.ensures.maps in (
      c.kept.ensures ∙ chained_is bits any_codes any_dictionary t c.in-Ok-map_chain.coded c.args.self.now k
          c.self.inside.is_whole c.self.view_is maps.0,
      sym (chain_fault_is bits any_codes any_dictionary t c.args.self.now k c.self.inside.is_whole c.self.view_is)
          ∙ maps.1,
    )

pub returns-in-Ok-map_chain-clause-counts : goal.returns-in-Ok-map_chain-clause-counts
returns-in-Ok-map_chain-clause-counts g c =
    let t = c.self.inside.coded in
    let maps =
    subst (ChainsTo g.N.Number.BITS g.N.Number.value any_codes any_dictionary t (Ok c.in-Ok-map_chain.coded)
    c.args.meter.now c.map_chain.new.meter)
    (c.deref.ensures.value ∙ c.in-Ok.ensures) c.in-Ok-map_chain.ensures.maps in
    let cells = cells_are g.N.Number.BITS any_codes any_dictionary c.self.inside.coded c.args.self.now
    c.self.inside.is_loose c.self.inside.is_whole c.self.view_is in
    subst (λ (n : ℕ). HasMaps n c.args.meter.now c.map_chain.new.meter)
    (evaluations (times (g.N.Number.value c.args.k) ∷ []) _ _ _ refl cells) maps.2

pub returns-in-Ok-map_chain-clause-few : goal.returns-in-Ok-map_chain-clause-few
returns-in-Ok-map_chain-clause-few g c =
    let few = cells_few g.N.Number.BITS any_codes any_dictionary c.self.inside.coded c.self.inside.is_loose
    c.self.inside.is_whole in
    few_maps _ c.args.meter.now c.map_chain.new.meter
    (rw (evaluations c.deref.result.now _ _ _ (c.deref.ensures.value ∙ c.in-Ok.ensures) refl) few)
    c.map_chain.ensures.counts

pub returns-clause-product : goal.returns-clause-product
returns-clause-product g c =
    let bits = g.N.Number.BITS in
    let t = c.self.inside.coded in
    let k = g.N.Number.value c.args.k in
    refused_is bits g.N.Number.value any_codes any_dictionary t c.args.self.now k _ _ c.in-Err.refused c.args.meter.now
    c.map_chain.new.meter
    (c.deref.ensures.value ∙ c.in-Ok.ensures)
    (chain_fault_is bits any_codes any_dictionary t c.args.self.now k c.self.inside.is_whole c.self.view_is)
    c.in-Err.ensures.maps

pub returns-clause-counts : goal.returns-clause-counts
returns-clause-counts g c =
    let cells = cells_are g.N.Number.BITS any_codes any_dictionary c.self.inside.coded c.args.self.now
    c.self.inside.is_loose c.self.inside.is_whole c.self.view_is in
    subst (λ (n : ℕ). HasMapsUpTo n c.args.meter.now c.map_chain.new.meter)
    (evaluations c.deref.result.now _ _ _ (c.deref.ensures.value ∙ c.in-Ok.ensures) cells) c.map_chain.ensures.counts

pub returns-clause-few : goal.returns-clause-few
returns-clause-few g c =
    let few = cells_few g.N.Number.BITS any_codes any_dictionary c.self.inside.coded c.self.inside.is_loose
    c.self.inside.is_whole in
    few_maps _ c.args.meter.now c.map_chain.new.meter
    (rw (evaluations c.deref.result.now _ _ _ (c.deref.ensures.value ∙ c.in-Ok.ensures) refl) few)
    c.map_chain.ensures.counts
