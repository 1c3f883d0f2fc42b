-- P1 TO P12 HOLD (marked-examples), and the examples with zeros (banded-examples), of recipes (recipe-examples) and of clamped rows (schur-examples): both
-- sides of each row compute to the same.
use mathlib.Core.Path.{refl}
use mathlib.Core.Bool.{xor}
use lib.Ieee.{size}
use Rattle.number.specs.Examples.{AllHold}
use Rattle.number.specs.Number.{round_by, renormalised, sum_by, product_by, quotient_by, value, in_range}
use Rattle.number.specs.Signed.{signed_round, signed_sum, signed_product, with_sign}
use Rattle.rowset.specs.Mask.{mask_has, count_to, mask_count, mask_beyond}
use Rattle.words.specs.RowSet.{has, put, count, all_before, equal, rows, of_mask, among}
use Rattle.words.specs.Word.{ascending, descending, word, inverse_word, converse_word, transposed_word, total}
use Rattle.words.specs.Effort.{sets_with, updated, sum_over, factor_steps, steps_made, choose, quotient_steps}
use Rattle.words.specs.Walk.{one_at, moved, scaled, act, walk, minor, carry, carry_letter}
use Rattle.words.specs.Latest.{some, latest}
use Rattle.words.specs.Formula.{latest_before, on_diagonal, below_diagonal, banded_below, factors_by}
use Rattle.words.specs.Operation.{joined_word, row_by_row, result}
use Rattle.verdict.specs.Verdict.{first_behind}
use Rattle.items.specs.Items.{storable, signed_item, list_of, list_numbers}
use Rattle.lists.specs.Lists.{carried_vector, any_outside}
use Rattle.table.specs.Table.{factors_of, table_of, square_of, outside}
use Rattle.places.specs.Shelf.{rows_at, table_at, with_table, empty_shelf}
use Rattle.operations.specs.Operations.{operation_call, minor_at, minor_call}
use Rattle.operations.specs.Forecast.{forecast_call, recipe_forecast}
use Rattle.group.specs.Group.{group_in, bytes_in}
use Rattle.writer.specs.Encoding.{factor_bytes, factors_bytes, encoding}
use Rattle.reader.specs.Matrix.{item_at, mantissa_at, judged_code, factor_at, factors_from, matrix_of}
use Rattle.shelf.specs.Calls.{load_call, bytes_at, write_call, length_call, carry_call}
use Rattle.shelf.specs.Run.{run}
use Rattle.shelf.specs.Examples.{marked_table, banded_table, recipe_table, schur_table}

pub marked-examples : AllHold marked_table
unfolding marked_table has put count equal rows of_mask among ascending descending word inverse_word converse_word joined_word one_at moved scaled act walk minor
    carry carry_letter some latest all_before latest_before on_diagonal below_diagonal banded_below factors_by value result row_by_row
    round_by renormalised sum_by product_by quotient_by in_range
    signed_round signed_sum signed_product with_sign size lib.Ieee.span lib.Ieee.climb xor mask_has count_to mask_count mask_beyond
    factors_of table_of outside rows_at table_at with_table empty_shelf first_behind
    storable signed_item list_of list_numbers carried_vector any_outside operation_call minor_at minor_call carry_call run
    sets_with updated total sum_over factor_steps steps_made choose quotient_steps forecast_call bytes_in factor_bytes factors_bytes encoding bytes_at length_call
marked-examples = (
  refl,
  (
    refl,
    (
      refl,
      (
        refl,
        (
          refl,
          (
            refl,
            (
              refl,
              (
                refl,
                (
                  refl,
                  (
                    refl,
                    (refl, (refl, (refl, (refl, (refl, (refl, (refl, (refl, (refl, (refl, tt)))))))))),
                  ),
                ),
              ),
            ),
          ),
        ),
      ),
    ),
  ),
)

pub banded-examples : AllHold banded_table
unfolding banded_table has put count equal rows of_mask among ascending descending word inverse_word joined_word one_at moved scaled act walk minor
    carry carry_letter some latest all_before latest_before on_diagonal below_diagonal banded_below factors_by value result row_by_row
    round_by renormalised sum_by product_by quotient_by in_range
    signed_round signed_sum signed_product with_sign size lib.Ieee.span lib.Ieee.climb xor mask_has count_to mask_count mask_beyond
    factors_of table_of square_of outside rows_at table_at with_table empty_shelf first_behind
    group_in bytes_in factor_bytes factors_bytes encoding item_at mantissa_at judged_code factor_at factors_from matrix_of load_call bytes_at write_call
    storable signed_item list_of list_numbers carried_vector any_outside operation_call minor_at minor_call carry_call run
    sets_with updated total sum_over factor_steps steps_made choose quotient_steps forecast_call
banded-examples =
    (refl, (refl, (refl, (refl, (refl, (refl, (refl, (refl, (refl, (refl, (refl, (refl, (refl, (refl, (refl, (refl, tt))))))))))))))))

pub recipe-examples : AllHold recipe_table
unfolding recipe_table has put count equal rows ascending descending word inverse_word converse_word transposed_word joined_word one_at moved scaled act walk minor
    some latest all_before latest_before on_diagonal below_diagonal banded_below factors_by result row_by_row
    round_by renormalised sum_by product_by quotient_by in_range size lib.Ieee.span lib.Ieee.climb xor
    factors_of table_of outside rows_at table_at with_table empty_shelf first_behind operation_call run
    sets_with updated total sum_over factor_steps steps_made choose quotient_steps recipe_forecast
recipe-examples = (refl, (refl, (refl, (refl, (refl, (refl, (refl, tt)))))))

pub schur-examples : AllHold schur_table
unfolding schur_table has put count equal rows ascending descending word joined_word one_at moved scaled act walk minor
    some latest all_before latest_before on_diagonal below_diagonal banded_below factors_by result row_by_row
    round_by renormalised sum_by product_by quotient_by in_range size lib.Ieee.span lib.Ieee.climb xor
    factors_of table_of outside rows_at table_at with_table empty_shelf first_behind operation_call run
    sets_with updated total sum_over factor_steps steps_made choose quotient_steps forecast_call
schur-examples = (refl, (refl, (refl, (refl, (refl, tt)))))
