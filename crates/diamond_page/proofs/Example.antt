-- How a row reads: where each number is its own place in the list, which tells it; and where a plan is picked, and one is not allowed.
use mathlib.Core.Path.{◌≡◌, refl}
use mathlib.Core.Bool.{cond}
use mathlib.Core.List.{List}
use Prim.Native.Nat.{ℕ, ◌+◌}
use lib.Dec.{eqb}
use Rattle.lists.specs.Lists.{table}
use Rattle.text.specs.Text.{ascii, joined}
use Rattle.layout.specs.Sheet.{BLANK}
use Rattle.layout.specs.Diamond.{plan_from, page_cells, page_fits, diamond_page_count}
use Rattle.page_fields.specs.Fields.{dropped, digit_byte, number_byte, fields, shown}
use Rattle.diamond_form.specs.Form.{row_end, heading_bytes, form_bytes, first_of, place_of}
use Rattle.diamond_page.specs.Page.{no_text, yes_text, pick_place, field_byte, row_byte}

-- a row up to its line feed
unfoldable pub row : List ℕ → ℕ → List ℕ
row numbers n = table (row_byte numbers n) row_end

unfoldable pub places : List ℕ
places = table (λ i. i) diamond_page_count

-- lead-lag is picked, lagging is not allowed, and the ratio of the first storage is not below 1
unfoldable pub told : List ℕ
told =
    table (λ i. cond (eqb i pick_place) 2 (cond (eqb i (page_cells + plan_from + 1)) BLANK (cond (eqb i page_fits) 0 i))) diamond_page_count

pub record Rows : Type 0 where
  pub west_names : row places 0 ≡ ascii "no west junction             book :        EBT        EBR        WBL        WBT        SBL        SBT        SBR"
  pub west_lanes : row places 1 ≡ ascii "   lanes                        2 n          6         12         18         24         54         60         66"
  pub east_lanes : row places 26 ≡ ascii "   lanes                        2 n        245        251        221        227        257        263        269"
  pub walkers : row places 4 ≡ ascii "   pedestrians                  5 p         73                               78                    88           "
  pub frees : row places 32 ≡ ascii "   free right                   8 n                   302                                                    307"
  pub storages : row places 34 ≡ ascii "   storage                     10 n                              443                   445                      "
  pub adjusted : row places 20 ≡ ascii "16 adjusted time               23 s      0.109      0.110      0.136      0.137      0.192      0.193      0.194"
  pub lane_factors : row places 13 ≡ ascii "   lane factor                 17 F      0.011      0.017      0.023      0.029      0.059      0.065      0.071"
  pub factors : row places 39 ≡ ascii "4  turning factor              18 f     0.0345                           0.0317                0.0373           "
  pub times : row places 46 ≡ ascii "   interchange time            24 s      0.454      0.455      0.456      0.457      0.458      0.459      0.460"
  pub isolated : row places 51 ≡ ascii "   isolated time 1             28 s      0.461      0.462                                                       "
  pub ratios : row told 24 ≡ ascii "   ratio below 1               27 y                               no                   yes                      "
  pub lagging : row told 58 ≡ ascii "   lagging                     33 s         NA                                                                  "
  pub lead_lag_row : row told 59 ≡ ascii "   lead-lag                    34 s *    0.471                                                                  "

pub read_so : Rows
unfolding row places told table row_byte field_byte heading_bytes form_bytes first_of place_of no_text yes_text shown number_byte digit_byte dropped fields joined ascii
read_so =
    record {
      west_names = refl;
      west_lanes = refl;
      east_lanes = refl;
      walkers = refl;
      frees = refl;
      storages = refl;
      adjusted = refl;
      lane_factors = refl;
      factors = refl;
      times = refl;
      isolated = refl;
      ratios = refl;
      lagging = refl;
      lead_lag_row = refl;
    }
