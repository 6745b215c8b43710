-- The figures of docs/RULES.md, "What a loop costs", as printed there:
-- tenths of kcal/mol, and the term of long loops in thousandths. Assumes nothing: these are definitions.
use Rattle.std.specs.Prelude.{List, [], ◌∷◌, ℕ, ◌+◌, length}

-- the smallest hairpin
abbrev pub smallest_hairpin : ℕ
smallest_hairpin = 3

-- the largest size that has a figure of its own
abbrev pub tabled : ℕ
tabled = 30

-- hairpins, from the smallest to size 30
unfoldable pub hairpin : List ℕ
hairpin =
    54 ∷ 56 ∷ 57 ∷ 54 ∷ 56 ∷ 57 ∷ 54 ∷ 56 ∷ 57 ∷ 58 ∷ 59 ∷ 59 ∷ 60 ∷ 61 ∷ 61
    ∷ 62 ∷ 62 ∷ 63 ∷ 63 ∷ 63 ∷ 64 ∷ 64 ∷ 64 ∷ 65 ∷ 65 ∷ 65 ∷ 65 ∷ 66
    ∷ []

-- of the two bases just inside a hairpin's closing pair none, one or both are purines: below zero, without the sign
unfoldable pub mismatch : List ℕ
mismatch = 0 ∷ 4 ∷ 8 ∷ []

-- bulges, sizes 1 to 30
unfoldable pub bulge : List ℕ
bulge =
    38 ∷ 28 ∷ 32 ∷ 36 ∷ 40 ∷ 44 ∷ 46 ∷ 47 ∷ 48 ∷ 49 ∷ 50 ∷ 51 ∷ 52 ∷ 53 ∷ 54
    ∷ 54 ∷ 55 ∷ 55 ∷ 56 ∷ 56 ∷ 57 ∷ 57 ∷ 58 ∷ 58 ∷ 58 ∷ 59 ∷ 59 ∷ 59 ∷ 60 ∷ 60
    ∷ []

-- internal loops, sizes 2 to 30
unfoldable pub internal : List ℕ
internal =
    0 ∷ 0 ∷ 11 ∷ 20 ∷ 20 ∷ 21 ∷ 23 ∷ 24 ∷ 25 ∷ 26 ∷ 27 ∷ 28 ∷ 29 ∷ 29 ∷ 30
    ∷ 31 ∷ 31 ∷ 32 ∷ 32 ∷ 33 ∷ 33 ∷ 34 ∷ 34 ∷ 34 ∷ 35 ∷ 35 ∷ 35 ∷ 36 ∷ 36
    ∷ []

-- for each base by which the sides of an internal loop differ, and the most of this
abbrev pub slope : ℕ
slope = 3

abbrev pub slope_most : ℕ
slope_most = 30

-- the longest side of a bulge or an internal loop
abbrev pub longest_side : ℕ
longest_side = 29

-- stacks, rows by the outer pair, columns by the inner, order AU UA GC CG GU UG: below zero, without the sign
unfoldable pub stack : List ℕ
stack =
    9 ∷ 11 ∷ 22 ∷ 21 ∷ 6 ∷ 14
    ∷ 13 ∷ 9 ∷ 24 ∷ 21 ∷ 10 ∷ 7
    ∷ 24 ∷ 21 ∷ 33 ∷ 24 ∷ 15 ∷ 15
    ∷ 21 ∷ 21 ∷ 24 ∷ 34 ∷ 14 ∷ 21
    ∷ 13 ∷ 10 ∷ 25 ∷ 15 ∷ 5 ∷ 13
    ∷ 10 ∷ 7 ∷ 15 ∷ 15 ∷ 3 ∷ 5
    ∷ []

-- a many-armed loop: 34 + 4, and 4 for each inner pair
abbrev pub closing : ℕ
closing = 34 + 4

abbrev pub arm : ℕ
arm = 4

-- the fewest inner pairs of a many-armed loop
abbrev pub fewest_arms : ℕ
fewest_arms = 1

-- the term of sizes 31, 32, ..: 1000 × 1.75 × 0.001987 × 310.15 × ln(size/30) thousandths, rounded to the nearest
unfoldable pub long : List ℕ
long =
    35 ∷ 70 ∷ 103 ∷ 135 ∷ 166 ∷ 197 ∷ 226 ∷ 255 ∷ 283 ∷ 310 ∷ 337 ∷ 363 ∷ 388 ∷ 413 ∷ 437 ∷ 461
    ∷ 484 ∷ 507 ∷ 529 ∷ 551 ∷ 572 ∷ 593 ∷ 614 ∷ 634 ∷ 654 ∷ 673 ∷ 692 ∷ 711 ∷ 729 ∷ 748 ∷ 765 ∷ 783
    ∷ 800 ∷ 817 ∷ 834 ∷ 850 ∷ 867 ∷ 883 ∷ 898 ∷ 914 ∷ 929 ∷ 944 ∷ 959 ∷ 974 ∷ 988 ∷ 1002 ∷ 1017 ∷ 1030
    ∷ 1044 ∷ 1058 ∷ 1071 ∷ 1084 ∷ 1097 ∷ 1110 ∷ 1123 ∷ 1136 ∷ 1148 ∷ 1161 ∷ 1173 ∷ 1185 ∷ 1197 ∷ 1209 ∷ 1220 ∷ 1232
    ∷ 1243 ∷ 1254 ∷ 1266 ∷ 1277 ∷ 1288 ∷ 1298 ∷ 1309 ∷ 1320 ∷ 1330 ∷ 1341 ∷ 1351 ∷ 1361 ∷ 1371 ∷ 1381 ∷ 1391 ∷ 1401
    ∷ 1411 ∷ 1421 ∷ 1430 ∷ 1440 ∷ 1449 ∷ 1459 ∷ 1468 ∷ 1477 ∷ 1486 ∷ 1495 ∷ 1504 ∷ 1513 ∷ 1522 ∷ 1530 ∷ 1539 ∷ 1548
    ∷ 1556 ∷ 1565 ∷ 1573 ∷ 1581 ∷ 1590 ∷ 1598 ∷ 1606 ∷ 1614 ∷ 1622 ∷ 1630 ∷ 1638 ∷ 1646 ∷ 1654 ∷ 1661 ∷ 1669 ∷ 1677
    ∷ 1684 ∷ 1692 ∷ 1699 ∷ 1707 ∷ 1714 ∷ 1721 ∷ 1729 ∷ 1736 ∷ 1743 ∷ 1750 ∷ 1757 ∷ 1764 ∷ 1771 ∷ 1778 ∷ 1785 ∷ 1792
    ∷ 1799 ∷ 1805 ∷ 1812 ∷ 1819 ∷ 1825 ∷ 1832 ∷ 1839 ∷ 1845 ∷ 1852 ∷ 1858 ∷ 1864 ∷ 1871 ∷ 1877 ∷ 1883 ∷ 1890 ∷ 1896
    ∷ 1902 ∷ 1908 ∷ 1914 ∷ 1920 ∷ 1926 ∷ 1932 ∷ 1938 ∷ 1944 ∷ 1950 ∷ 1956 ∷ 1962 ∷ 1968 ∷ 1974 ∷ 1979 ∷ 1985 ∷ 1991
    ∷ 1996 ∷ 2002 ∷ 2008 ∷ 2013 ∷ 2019 ∷ 2024 ∷ 2030 ∷ 2035 ∷ 2041 ∷ 2046 ∷ 2051 ∷ 2057 ∷ 2062 ∷ 2067 ∷ 2073 ∷ 2078
    ∷ 2083 ∷ 2088 ∷ 2093 ∷ 2099 ∷ 2104 ∷ 2109 ∷ 2114 ∷ 2119 ∷ 2124 ∷ 2129 ∷ 2134 ∷ 2139 ∷ 2144 ∷ 2149 ∷ 2154 ∷ 2159
    ∷ 2163 ∷ 2168 ∷ 2173 ∷ 2178 ∷ 2183 ∷ 2187 ∷ 2192 ∷ 2197 ∷ 2201 ∷ 2206 ∷ 2211 ∷ 2215 ∷ 2220 ∷ 2224 ∷ 2229 ∷ 2234
    ∷ 2238 ∷ 2243 ∷ 2247 ∷ 2252 ∷ 2256 ∷ 2260 ∷ 2265 ∷ 2269 ∷ 2274 ∷ 2278 ∷ 2282 ∷ 2287 ∷ 2291 ∷ 2295 ∷ 2300 ∷ 2304
    ∷ []

-- the largest size that has a figure at all: a longer list of terms makes it larger
unfoldable pub longest : ℕ
longest = tabled + length long
