-- The walk of document 01, and short histories that expose wrong readings: of document 01, and of what later requests brought.
use mathlib.Core.List.{List, [], ◌∷◌}
use Rattle.protocol.proofs.Histories.{jn, rdq, wrs, wrq, rd, wr, sn, cks, ck, Made, Called, Shares, Head, Copy, Contents, History, fair_use}

unfoldable pub histories : List History
histories =
    -- the walk of document 01
    record {
      capacity = 4;
      file_length = 4;
      names = 1 ∷ 0 ∷ 2 ∷ 0 ∷ 3 ∷ 0 ∷ 4 ∷ 0 ∷ [];
      choice = 0;
      files = 1;
      counties = 1 ∷ 1 ∷ 1 ∷ 1 ∷ [];
      steps =
          Made (wr 1 7 0 (9 ∷ [])) 0 1 [] ∷
          Made (rd 4 12 0 1 (0 ∷ [])) 0 1 (9 ∷ []) ∷
          Made (wr 2 11 0 (8 ∷ [])) 0 2 [] ∷
          Made (rd 4 12 0 1 (0 ∷ [])) 7 0 (0 ∷ []) ∷
          Made (sn 3 4 12) 10 0 [] ∷
          Made (ck 1 11) 0 1 [] ∷
          Made (wr 3 4 0 (7 ∷ [])) 6 0 [] ∷
          [];
    }
    -- the desired-version test: a read that meets only rows left behind; row bytes
    ∷ record {
      capacity = 4;
      file_length = 3;
      names = 10 ∷ 0 ∷ 20 ∷ 0 ∷ 30 ∷ 0 ∷ 40 ∷ 0 ∷ [];
      choice = 0;
      files = 1;
      counties = 1 ∷ 1 ∷ 1 ∷ 1 ∷ [];
      steps =
          Made (wr 1 7 1 (7 ∷ 8 ∷ [])) 0 1 [] ∷
          Made (wr 1 11 0 (9 ∷ [])) 0 2 [] ∷
          Head 1 (10 ∷ 0 ∷ 2 ∷ 0 ∷ 0 ∷ 0 ∷ 0 ∷ 0 ∷ 0 ∷ 0 ∷ 0 ∷ 0 ∷ 0 ∷ 0 ∷ 0 ∷ 0 ∷ 15 ∷ 0 ∷ 0 ∷ 0 ∷ 0 ∷ 0 ∷ 0 ∷ 0 ∷ 0 ∷ 0 ∷ 1 ∷ 0 ∷ 0 ∷ 0 ∷ 0 ∷ 0 ∷ []) ∷
          Copy 1 1 (0 ∷ 1 ∷ 0 ∷ 0 ∷ 2 ∷ 0 ∷ 0 ∷ 0 ∷ 0 ∷ 0 ∷ 0 ∷ 0 ∷ 9 ∷ 7 ∷ 8 ∷ []) ∷
          Head 3 (30 ∷ 0 ∷ 4 ∷ 0 ∷ 0 ∷ 0 ∷ 0 ∷ 0 ∷ 0 ∷ 0 ∷ 0 ∷ 0 ∷ 0 ∷ 0 ∷ 0 ∷ 0 ∷ 15 ∷ 0 ∷ 0 ∷ 0 ∷ 0 ∷ 0 ∷ 0 ∷ 0 ∷ 0 ∷ 0 ∷ 1 ∷ 0 ∷ 0 ∷ 0 ∷ 0 ∷ 0 ∷ []) ∷
          Copy 1 3 (0 ∷ 1 ∷ 0 ∷ 0 ∷ 1 ∷ 0 ∷ 0 ∷ 0 ∷ 0 ∷ 0 ∷ 0 ∷ 0 ∷ 0 ∷ 7 ∷ 8 ∷ []) ∷
          Head 4 (40 ∷ 0 ∷ 0 ∷ 0 ∷ 0 ∷ 0 ∷ 0 ∷ 0 ∷ 0 ∷ 0 ∷ 0 ∷ 0 ∷ 0 ∷ 0 ∷ 0 ∷ 0 ∷ 15 ∷ 0 ∷ 0 ∷ 0 ∷ 0 ∷ 0 ∷ 0 ∷ 0 ∷ 0 ∷ 0 ∷ 1 ∷ 0 ∷ 0 ∷ 0 ∷ 0 ∷ 0 ∷ []) ∷
          Copy 1 4 (1 ∷ 0 ∷ 0 ∷ 0 ∷ 0 ∷ 0 ∷ 0 ∷ 0 ∷ 2 ∷ 0 ∷ 0 ∷ 0 ∷ 0 ∷ 0 ∷ 0 ∷ []) ∷
          Made (rd 3 12 0 1 (5 ∷ [])) 7 0 (5 ∷ []) ∷
          Called (rd 3 12 0 1 (5 ∷ [])) 7 (4 ∷ []) ∷
          Made (rd 2 15 0 3 (0 ∷ 0 ∷ 0 ∷ [])) 0 2 (9 ∷ 7 ∷ 8 ∷ []) ∷
          [];
    }
    -- a check wants a write quorum, and marks the rows that are not good
    ∷ record {
      capacity = 4;
      file_length = 2;
      names = 10 ∷ 0 ∷ 20 ∷ 0 ∷ 30 ∷ 0 ∷ 40 ∷ 0 ∷ [];
      choice = 0;
      files = 1;
      counties = 1 ∷ 1 ∷ 1 ∷ 1 ∷ [];
      steps =
          Made (ck 1 3) 6 0 [] ∷
          Made (rd 1 3 0 1 (9 ∷ [])) 0 0 (0 ∷ []) ∷
          Made (ck 1 7) 0 1 [] ∷
          Made (wr 1 3 0 (4 ∷ [])) 0 1 [] ∷
          Made (ck 2 14) 0 2 [] ∷
          Head 3 (30 ∷ 0 ∷ 4 ∷ 0 ∷ 0 ∷ 0 ∷ 0 ∷ 0 ∷ 0 ∷ 0 ∷ 0 ∷ 0 ∷ 2 ∷ 0 ∷ 0 ∷ 0 ∷ 14 ∷ 0 ∷ 0 ∷ 0 ∷ 0 ∷ 0 ∷ 0 ∷ 0 ∷ 0 ∷ 0 ∷ 1 ∷ 0 ∷ 0 ∷ 0 ∷ 0 ∷ 0 ∷ []) ∷
          Copy 1 3 (1 ∷ 0 ∷ 0 ∷ 0 ∷ 0 ∷ 0 ∷ 0 ∷ 0 ∷ 1 ∷ 0 ∷ 0 ∷ 0 ∷ 0 ∷ 0 ∷ []) ∷
          Head 2 (20 ∷ 0 ∷ 3 ∷ 0 ∷ 0 ∷ 0 ∷ 0 ∷ 0 ∷ 0 ∷ 0 ∷ 0 ∷ 0 ∷ 2 ∷ 0 ∷ 0 ∷ 0 ∷ 14 ∷ 0 ∷ 0 ∷ 0 ∷ 0 ∷ 0 ∷ 0 ∷ 0 ∷ 0 ∷ 0 ∷ 1 ∷ 0 ∷ 0 ∷ 0 ∷ 0 ∷ 0 ∷ []) ∷
          Copy 1 2 (0 ∷ 1 ∷ 0 ∷ 0 ∷ 1 ∷ 0 ∷ 0 ∷ 0 ∷ 0 ∷ 0 ∷ 0 ∷ 0 ∷ 4 ∷ 0 ∷ []) ∷
          Made (rd 3 12 0 1 (0 ∷ [])) 7 0 (0 ∷ []) ∷
          Made (ck 2 14) 0 2 [] ∷
          [];
    }
    -- m rows are not wanted of a short column
    ∷ record {
      capacity = 3;
      file_length = 1;
      names = 10 ∷ 0 ∷ 20 ∷ 0 ∷ 30 ∷ 0 ∷ [];
      choice = 0;
      files = 1;
      counties = 1 ∷ 1 ∷ 1 ∷ [];
      steps =
          Made (wr 1 3 0 (5 ∷ [])) 0 1 [] ∷
          Made (rd 1 3 0 1 (0 ∷ [])) 0 1 (5 ∷ []) ∷
          Made (rd 1 5 0 1 (0 ∷ [])) 6 0 (0 ∷ []) ∷
          [];
    }
    -- the list in force answers, and a read is refused all the same
    ∷ record {
      capacity = 4;
      file_length = 1;
      names = 1 ∷ 0 ∷ 2 ∷ 0 ∷ 3 ∷ 0 ∷ 4 ∷ 0 ∷ [];
      choice = 0;
      files = 1;
      counties = 1 ∷ 1 ∷ 1 ∷ 1 ∷ [];
      steps =
          Made (wr 1 7 0 (1 ∷ [])) 0 1 [] ∷
          Made (wr 1 11 0 (2 ∷ [])) 0 2 [] ∷
          Made (ck 1 13) 0 1 [] ∷
          Made (wr 2 14 0 (3 ∷ [])) 0 3 [] ∷
          Made (rd 1 13 0 1 (0 ∷ [])) 7 0 (0 ∷ []) ∷
          [];
    }
    -- the early questions, in their order; ranges at the end of the file
    ∷ record {
      capacity = 2;
      file_length = 2;
      names = 2 ∷ 1 ∷ 3 ∷ 2 ∷ [];
      choice = 0;
      files = 1;
      counties = 1 ∷ 1 ∷ [];
      steps =
          Made (rd 3 3 0 1 (0 ∷ [])) 2 0 (0 ∷ []) ∷
          Made (rd 1 7 0 1 (0 ∷ [])) 2 0 (0 ∷ []) ∷
          Made (rd 1 2 0 1 (0 ∷ [])) 3 0 (0 ∷ []) ∷
          Made (rd 1 3 1 2 (0 ∷ [])) 4 0 (0 ∷ []) ∷
          Made (rd 1 3 0 0 (0 ∷ [])) 4 0 (0 ∷ []) ∷
          Made (rd 1 3 0 1 (0 ∷ 0 ∷ [])) 5 0 (0 ∷ 0 ∷ []) ∷
          Made (wr 1 3 2 (1 ∷ [])) 4 0 [] ∷
          Made (wr 2 3 1 (3 ∷ [])) 0 1 [] ∷
          Made (rd 2 3 1 1 (0 ∷ [])) 0 1 (3 ∷ []) ∷
          Head 2 (3 ∷ 2 ∷ 0 ∷ 0 ∷ 0 ∷ 0 ∷ 0 ∷ 0 ∷ 0 ∷ 0 ∷ 0 ∷ 0 ∷ 0 ∷ 0 ∷ 0 ∷ 0 ∷ 3 ∷ 0 ∷ 0 ∷ 0 ∷ 0 ∷ 0 ∷ 0 ∷ 0 ∷ 0 ∷ 0 ∷ 1 ∷ 0 ∷ 0 ∷ 0 ∷ 0 ∷ 0 ∷ []) ∷
          Copy 1 2 (0 ∷ 1 ∷ 0 ∷ 0 ∷ 1 ∷ 0 ∷ 0 ∷ 0 ∷ 0 ∷ 0 ∷ 0 ∷ 0 ∷ 0 ∷ 3 ∷ []) ∷
          Made (wr 1 3 0 []) 4 0 [] ∷
          Made (ck 1 3) 0 0 [] ∷
          [];
    }
    -- a send wants the desired version too; a good send; its value
    ∷ record {
      capacity = 4;
      file_length = 2;
      names = 10 ∷ 0 ∷ 20 ∷ 0 ∷ 30 ∷ 0 ∷ 40 ∷ 0 ∷ [];
      choice = 0;
      files = 1;
      counties = 1 ∷ 1 ∷ 1 ∷ 1 ∷ [];
      steps =
          Made (wr 1 7 0 (1 ∷ [])) 0 1 [] ∷
          Made (wr 1 11 1 (2 ∷ [])) 0 2 [] ∷
          Made (sn 3 4 12) 10 0 [] ∷
          Made (rd 3 12 0 2 (0 ∷ 0 ∷ [])) 7 0 (0 ∷ 0 ∷ []) ∷
          Made (sn 3 1 5) 10 0 [] ∷
          Made (sn 1 4 9) 0 2 [] ∷
          Head 4 (40 ∷ 0 ∷ 0 ∷ 0 ∷ 0 ∷ 0 ∷ 0 ∷ 0 ∷ 0 ∷ 0 ∷ 0 ∷ 0 ∷ 0 ∷ 0 ∷ 0 ∷ 0 ∷ 15 ∷ 0 ∷ 0 ∷ 0 ∷ 0 ∷ 0 ∷ 0 ∷ 0 ∷ 0 ∷ 0 ∷ 1 ∷ 0 ∷ 0 ∷ 0 ∷ 0 ∷ 0 ∷ []) ∷
          Copy 1 4 (0 ∷ 1 ∷ 0 ∷ 0 ∷ 2 ∷ 0 ∷ 0 ∷ 0 ∷ 0 ∷ 0 ∷ 0 ∷ 0 ∷ 1 ∷ 2 ∷ []) ∷
          Made (sn 1 4 9) 10 0 [] ∷
          Made (sn 4 4 8) 2 0 [] ∷
          Made (sn 1 4 1) 3 0 [] ∷
          Made (rd 3 12 0 2 (0 ∷ 0 ∷ [])) 0 2 (1 ∷ 2 ∷ []) ∷
          [];
    }
    -- the own choice: P is {1, 2}, so row 3 does not take the write
    ∷ record {
      capacity = 3;
      file_length = 1;
      names = 10 ∷ 0 ∷ 20 ∷ 0 ∷ 30 ∷ 0 ∷ [];
      choice = 0;
      files = 1;
      counties = 1 ∷ 1 ∷ 1 ∷ [];
      steps =
          Made (ck 1 3) 0 1 [] ∷
          Made (wr 1 7 0 (6 ∷ [])) 0 1 [] ∷
          Head 3 (30 ∷ 0 ∷ 0 ∷ 0 ∷ 0 ∷ 0 ∷ 0 ∷ 0 ∷ 0 ∷ 0 ∷ 0 ∷ 0 ∷ 0 ∷ 0 ∷ 0 ∷ 0 ∷ 7 ∷ 0 ∷ 0 ∷ 0 ∷ 0 ∷ 0 ∷ 0 ∷ 0 ∷ 0 ∷ 0 ∷ 1 ∷ 0 ∷ 0 ∷ 0 ∷ 0 ∷ 0 ∷ []) ∷
          Copy 1 3 (0 ∷ 0 ∷ 0 ∷ 0 ∷ 0 ∷ 0 ∷ 0 ∷ 0 ∷ 0 ∷ 0 ∷ 0 ∷ 0 ∷ 0 ∷ []) ∷
          Made (wr 3 6 0 (1 ∷ [])) 6 0 [] ∷
          [];
    }
    -- six machines whose names are not their indexes: choices go by the name
    ∷ record {
      capacity = 6;
      file_length = 1;
      names = 9 ∷ 0 ∷ 10 ∷ 0 ∷ 12 ∷ 0 ∷ 16 ∷ 0 ∷ 20 ∷ 0 ∷ 25 ∷ 0 ∷ [];
      choice = 0;
      files = 1;
      counties = 1 ∷ 1 ∷ 1 ∷ 1 ∷ 1 ∷ 1 ∷ [];
      steps =
          Made (wr 1 63 0 (1 ∷ [])) 0 1 [] ∷
          Head 1 (9 ∷ 0 ∷ 2 ∷ 0 ∷ 0 ∷ 0 ∷ 0 ∷ 0 ∷ 0 ∷ 0 ∷ 0 ∷ 0 ∷ 0 ∷ 0 ∷ 0 ∷ 0 ∷ 63 ∷ 0 ∷ 0 ∷ 0 ∷ 0 ∷ 0 ∷ 0 ∷ 0 ∷ 0 ∷ 0 ∷ 1 ∷ 0 ∷ 0 ∷ 0 ∷ 0 ∷ 0 ∷ []) ∷
          Copy 1 1 (0 ∷ 1 ∷ 0 ∷ 0 ∷ 1 ∷ 0 ∷ 0 ∷ 0 ∷ 0 ∷ 0 ∷ 0 ∷ 0 ∷ 1 ∷ []) ∷
          Head 2 (10 ∷ 0 ∷ 3 ∷ 0 ∷ 0 ∷ 0 ∷ 0 ∷ 0 ∷ 0 ∷ 0 ∷ 0 ∷ 0 ∷ 0 ∷ 0 ∷ 0 ∷ 0 ∷ 63 ∷ 0 ∷ 0 ∷ 0 ∷ 0 ∷ 0 ∷ 0 ∷ 0 ∷ 0 ∷ 0 ∷ 1 ∷ 0 ∷ 0 ∷ 0 ∷ 0 ∷ 0 ∷ []) ∷
          Copy 1 2 (0 ∷ 0 ∷ 0 ∷ 0 ∷ 0 ∷ 0 ∷ 0 ∷ 0 ∷ 0 ∷ 0 ∷ 0 ∷ 0 ∷ 0 ∷ []) ∷
          Head 3 (12 ∷ 0 ∷ 4 ∷ 0 ∷ 0 ∷ 0 ∷ 0 ∷ 0 ∷ 0 ∷ 0 ∷ 0 ∷ 0 ∷ 0 ∷ 0 ∷ 0 ∷ 0 ∷ 63 ∷ 0 ∷ 0 ∷ 0 ∷ 0 ∷ 0 ∷ 0 ∷ 0 ∷ 0 ∷ 0 ∷ 1 ∷ 0 ∷ 0 ∷ 0 ∷ 0 ∷ 0 ∷ []) ∷
          Copy 1 3 (0 ∷ 0 ∷ 0 ∷ 0 ∷ 0 ∷ 0 ∷ 0 ∷ 0 ∷ 0 ∷ 0 ∷ 0 ∷ 0 ∷ 0 ∷ []) ∷
          Head 4 (16 ∷ 0 ∷ 5 ∷ 0 ∷ 0 ∷ 0 ∷ 0 ∷ 0 ∷ 0 ∷ 0 ∷ 0 ∷ 0 ∷ 0 ∷ 0 ∷ 0 ∷ 0 ∷ 63 ∷ 0 ∷ 0 ∷ 0 ∷ 0 ∷ 0 ∷ 0 ∷ 0 ∷ 0 ∷ 0 ∷ 1 ∷ 0 ∷ 0 ∷ 0 ∷ 0 ∷ 0 ∷ []) ∷
          Copy 1 4 (0 ∷ 1 ∷ 0 ∷ 0 ∷ 1 ∷ 0 ∷ 0 ∷ 0 ∷ 0 ∷ 0 ∷ 0 ∷ 0 ∷ 1 ∷ []) ∷
          Head 5 (20 ∷ 0 ∷ 6 ∷ 0 ∷ 0 ∷ 0 ∷ 0 ∷ 0 ∷ 0 ∷ 0 ∷ 0 ∷ 0 ∷ 0 ∷ 0 ∷ 0 ∷ 0 ∷ 63 ∷ 0 ∷ 0 ∷ 0 ∷ 0 ∷ 0 ∷ 0 ∷ 0 ∷ 0 ∷ 0 ∷ 1 ∷ 0 ∷ 0 ∷ 0 ∷ 0 ∷ 0 ∷ []) ∷
          Copy 1 5 (0 ∷ 1 ∷ 0 ∷ 0 ∷ 1 ∷ 0 ∷ 0 ∷ 0 ∷ 0 ∷ 0 ∷ 0 ∷ 0 ∷ 1 ∷ []) ∷
          Head 6 (25 ∷ 0 ∷ 0 ∷ 0 ∷ 0 ∷ 0 ∷ 0 ∷ 0 ∷ 0 ∷ 0 ∷ 0 ∷ 0 ∷ 0 ∷ 0 ∷ 0 ∷ 0 ∷ 63 ∷ 0 ∷ 0 ∷ 0 ∷ 0 ∷ 0 ∷ 0 ∷ 0 ∷ 0 ∷ 0 ∷ 1 ∷ 0 ∷ 0 ∷ 0 ∷ 0 ∷ 0 ∷ []) ∷
          Copy 1 6 (0 ∷ 1 ∷ 0 ∷ 0 ∷ 1 ∷ 0 ∷ 0 ∷ 0 ∷ 0 ∷ 0 ∷ 0 ∷ 0 ∷ 1 ∷ []) ∷
          Made (rd 2 63 0 1 (0 ∷ [])) 0 1 (1 ∷ []) ∷
          Made (wr 5 63 0 (2 ∷ [])) 0 2 [] ∷
          Head 4 (16 ∷ 0 ∷ 5 ∷ 0 ∷ 0 ∷ 0 ∷ 0 ∷ 0 ∷ 0 ∷ 0 ∷ 0 ∷ 0 ∷ 0 ∷ 0 ∷ 0 ∷ 0 ∷ 63 ∷ 0 ∷ 0 ∷ 0 ∷ 0 ∷ 0 ∷ 0 ∷ 0 ∷ 0 ∷ 0 ∷ 1 ∷ 0 ∷ 0 ∷ 0 ∷ 0 ∷ 0 ∷ []) ∷
          Copy 1 4 (0 ∷ 1 ∷ 0 ∷ 0 ∷ 1 ∷ 0 ∷ 0 ∷ 0 ∷ 0 ∷ 0 ∷ 0 ∷ 0 ∷ 1 ∷ []) ∷
          Head 5 (20 ∷ 0 ∷ 6 ∷ 0 ∷ 0 ∷ 0 ∷ 0 ∷ 0 ∷ 0 ∷ 0 ∷ 0 ∷ 0 ∷ 0 ∷ 0 ∷ 0 ∷ 0 ∷ 63 ∷ 0 ∷ 0 ∷ 0 ∷ 0 ∷ 0 ∷ 0 ∷ 0 ∷ 0 ∷ 0 ∷ 1 ∷ 0 ∷ 0 ∷ 0 ∷ 0 ∷ 0 ∷ []) ∷
          Copy 1 5 (0 ∷ 1 ∷ 0 ∷ 0 ∷ 1 ∷ 0 ∷ 0 ∷ 0 ∷ 0 ∷ 0 ∷ 0 ∷ 0 ∷ 1 ∷ []) ∷
          Head 6 (25 ∷ 0 ∷ 0 ∷ 0 ∷ 0 ∷ 0 ∷ 0 ∷ 0 ∷ 0 ∷ 0 ∷ 0 ∷ 0 ∷ 0 ∷ 0 ∷ 0 ∷ 0 ∷ 63 ∷ 0 ∷ 0 ∷ 0 ∷ 0 ∷ 0 ∷ 0 ∷ 0 ∷ 0 ∷ 0 ∷ 1 ∷ 0 ∷ 0 ∷ 0 ∷ 0 ∷ 0 ∷ []) ∷
          Copy 1 6 (0 ∷ 1 ∷ 0 ∷ 0 ∷ 2 ∷ 0 ∷ 0 ∷ 0 ∷ 0 ∷ 0 ∷ 0 ∷ 0 ∷ 2 ∷ []) ∷
          [];
    }
    ∷ []

-- joinings, lists of five, tall tables, several files, counties
unfoldable pub later : List History
later =
    -- a row joins in the middle of the chain: the list that it is checked into is laid in chain order, and so is a choice made
    record {
      capacity = 5;
      file_length = 1;
      names = 10 ∷ 0 ∷ 30 ∷ 0 ∷ 40 ∷ 0 ∷ [];
      choice = 0;
      files = 1;
      counties = 1 ∷ 1 ∷ 1 ∷ [];
      steps =
          Made (jn 20 1) 0 4 [] ∷
          Head 1 (10 ∷ 0 ∷ 4 ∷ 0 ∷ 0 ∷ 0 ∷ 0 ∷ 0 ∷ 0 ∷ 0 ∷ 0 ∷ 0 ∷ 0 ∷ 0 ∷ 0 ∷ 0 ∷ 7 ∷ 0 ∷ 0 ∷ 0 ∷ 0 ∷ 0 ∷ 0 ∷ 0 ∷ 0 ∷ 0 ∷ 1 ∷ 0 ∷ 0 ∷ 0 ∷ 0 ∷ 0 ∷ []) ∷
          Copy 1 1 (0 ∷ 0 ∷ 0 ∷ 0 ∷ 0 ∷ 0 ∷ 0 ∷ 0 ∷ 0 ∷ 0 ∷ 0 ∷ 0 ∷ []) ∷
          Head 2 (30 ∷ 0 ∷ 3 ∷ 0 ∷ 0 ∷ 0 ∷ 0 ∷ 0 ∷ 0 ∷ 0 ∷ 0 ∷ 0 ∷ 0 ∷ 0 ∷ 0 ∷ 0 ∷ 7 ∷ 0 ∷ 0 ∷ 0 ∷ 0 ∷ 0 ∷ 0 ∷ 0 ∷ 0 ∷ 0 ∷ 1 ∷ 0 ∷ 0 ∷ 0 ∷ 0 ∷ 0 ∷ []) ∷
          Copy 1 2 (0 ∷ 0 ∷ 0 ∷ 0 ∷ 0 ∷ 0 ∷ 0 ∷ 0 ∷ 0 ∷ 0 ∷ 0 ∷ 0 ∷ []) ∷
          Head 4 (20 ∷ 0 ∷ 2 ∷ 0 ∷ 0 ∷ 0 ∷ 0 ∷ 0 ∷ 0 ∷ 0 ∷ 0 ∷ 0 ∷ 0 ∷ 0 ∷ 0 ∷ 0 ∷ 0 ∷ 0 ∷ 0 ∷ 0 ∷ 0 ∷ 0 ∷ 0 ∷ 0 ∷ 0 ∷ 0 ∷ 1 ∷ 0 ∷ 0 ∷ 0 ∷ 0 ∷ 0 ∷ []) ∷
          Copy 1 4 (0 ∷ 0 ∷ 0 ∷ 0 ∷ 0 ∷ 0 ∷ 0 ∷ 0 ∷ 0 ∷ 0 ∷ 0 ∷ 0 ∷ []) ∷
          Made (jn 20 1) 13 0 [] ∷
          Made (jn 5 1) 0 5 [] ∷
          Head 5 (5 ∷ 0 ∷ 1 ∷ 0 ∷ 0 ∷ 0 ∷ 0 ∷ 0 ∷ 0 ∷ 0 ∷ 0 ∷ 0 ∷ 0 ∷ 0 ∷ 0 ∷ 0 ∷ 0 ∷ 0 ∷ 0 ∷ 0 ∷ 0 ∷ 0 ∷ 0 ∷ 0 ∷ 0 ∷ 0 ∷ 1 ∷ 0 ∷ 0 ∷ 0 ∷ 0 ∷ 0 ∷ []) ∷
          Copy 1 5 (0 ∷ 0 ∷ 0 ∷ 0 ∷ 0 ∷ 0 ∷ 0 ∷ 0 ∷ 0 ∷ 0 ∷ 0 ∷ 0 ∷ []) ∷
          Made (jn 40 1) 13 0 [] ∷
          Made (jn 50 1) 14 0 [] ∷
          Made (ck 1 15) 0 1 [] ∷
          Made (rd 1 3 0 1 (0 ∷ [])) 6 0 (0 ∷ []) ∷
          Made (rd 1 9 0 1 (1 ∷ [])) 0 0 (0 ∷ []) ∷
          Made (wr 4 15 0 (7 ∷ [])) 0 1 [] ∷
          Contents 1 (7 ∷ []) ∷
          Contents 2 (7 ∷ []) ∷
          Contents 3 (0 ∷ []) ∷
          Contents 4 (7 ∷ []) ∷
          Made (rd 5 16 0 1 (0 ∷ [])) 6 0 (0 ∷ []) ∷
          Made (rd 5 25 0 1 (0 ∷ [])) 0 1 (7 ∷ []) ∷
          [];
    }
    -- a row that joins before the first write takes it, and counts in no quorum
    ∷ record {
      capacity = 3;
      file_length = 1;
      names = 10 ∷ 0 ∷ 20 ∷ 0 ∷ [];
      choice = 0;
      files = 1;
      counties = 1 ∷ 1 ∷ [];
      steps =
          Made (jn 15 1) 0 3 [] ∷
          Made (wr 3 5 0 (6 ∷ [])) 6 0 [] ∷
          Made (wr 3 7 0 (6 ∷ [])) 0 1 [] ∷
          Head 3 (15 ∷ 0 ∷ 2 ∷ 0 ∷ 0 ∷ 0 ∷ 0 ∷ 0 ∷ 0 ∷ 0 ∷ 0 ∷ 0 ∷ 0 ∷ 0 ∷ 0 ∷ 0 ∷ 0 ∷ 0 ∷ 0 ∷ 0 ∷ 0 ∷ 0 ∷ 0 ∷ 0 ∷ 0 ∷ 0 ∷ 1 ∷ 0 ∷ 0 ∷ 0 ∷ 0 ∷ 0 ∷ []) ∷
          Copy 1 3 (0 ∷ 1 ∷ 0 ∷ 0 ∷ 1 ∷ 0 ∷ 0 ∷ 0 ∷ 0 ∷ 0 ∷ 0 ∷ 0 ∷ 6 ∷ []) ∷
          [];
    }
    -- a row that joins later is marked by a write, sent to, and checked in
    ∷ record {
      capacity = 3;
      file_length = 1;
      names = 10 ∷ 0 ∷ 20 ∷ 0 ∷ [];
      choice = 0;
      files = 1;
      counties = 1 ∷ 1 ∷ [];
      steps =
          Made (wr 1 3 0 (1 ∷ [])) 0 1 [] ∷
          Made (jn 30 1) 0 3 [] ∷
          Made (sn 1 3 5) 10 0 [] ∷
          Made (wr 3 7 0 (2 ∷ [])) 0 2 [] ∷
          Head 3 (30 ∷ 0 ∷ 0 ∷ 0 ∷ 0 ∷ 0 ∷ 0 ∷ 0 ∷ 0 ∷ 0 ∷ 0 ∷ 0 ∷ 0 ∷ 0 ∷ 0 ∷ 0 ∷ 0 ∷ 0 ∷ 0 ∷ 0 ∷ 0 ∷ 0 ∷ 0 ∷ 0 ∷ 0 ∷ 0 ∷ 1 ∷ 0 ∷ 0 ∷ 0 ∷ 0 ∷ 0 ∷ []) ∷
          Copy 1 3 (1 ∷ 0 ∷ 0 ∷ 0 ∷ 0 ∷ 0 ∷ 0 ∷ 0 ∷ 2 ∷ 0 ∷ 0 ∷ 0 ∷ 0 ∷ []) ∷
          Made (sn 1 3 5) 0 2 [] ∷
          Head 3 (30 ∷ 0 ∷ 0 ∷ 0 ∷ 0 ∷ 0 ∷ 0 ∷ 0 ∷ 0 ∷ 0 ∷ 0 ∷ 0 ∷ 0 ∷ 0 ∷ 0 ∷ 0 ∷ 0 ∷ 0 ∷ 0 ∷ 0 ∷ 0 ∷ 0 ∷ 0 ∷ 0 ∷ 0 ∷ 0 ∷ 1 ∷ 0 ∷ 0 ∷ 0 ∷ 0 ∷ 0 ∷ []) ∷
          Copy 1 3 (0 ∷ 1 ∷ 0 ∷ 0 ∷ 2 ∷ 0 ∷ 0 ∷ 0 ∷ 0 ∷ 0 ∷ 0 ∷ 0 ∷ 2 ∷ []) ∷
          Made (ck 3 7) 0 1 [] ∷
          Head 3 (30 ∷ 0 ∷ 0 ∷ 0 ∷ 0 ∷ 0 ∷ 0 ∷ 0 ∷ 0 ∷ 0 ∷ 0 ∷ 0 ∷ 1 ∷ 0 ∷ 0 ∷ 0 ∷ 7 ∷ 0 ∷ 0 ∷ 0 ∷ 0 ∷ 0 ∷ 0 ∷ 0 ∷ 0 ∷ 0 ∷ 1 ∷ 0 ∷ 0 ∷ 0 ∷ 0 ∷ 0 ∷ []) ∷
          Copy 1 3 (0 ∷ 1 ∷ 0 ∷ 0 ∷ 2 ∷ 0 ∷ 0 ∷ 0 ∷ 0 ∷ 0 ∷ 0 ∷ 0 ∷ []) ∷
          [];
    }
    -- a list of five is laid in 3 rows and 2 columns: the third machine may be off; a check that takes one out and one that takes it in again lay it anew
    ∷ record {
      capacity = 5;
      file_length = 1;
      names = 10 ∷ 0 ∷ 20 ∷ 0 ∷ 30 ∷ 0 ∷ 40 ∷ 0 ∷ 50 ∷ 0 ∷ [];
      choice = 0;
      files = 1;
      counties = 1 ∷ 1 ∷ 1 ∷ 1 ∷ 1 ∷ [];
      steps =
          Head 3 (30 ∷ 0 ∷ 4 ∷ 0 ∷ 0 ∷ 0 ∷ 0 ∷ 0 ∷ 0 ∷ 0 ∷ 0 ∷ 0 ∷ 0 ∷ 0 ∷ 0 ∷ 0 ∷ 31 ∷ 0 ∷ 0 ∷ 0 ∷ 0 ∷ 0 ∷ 0 ∷ 0 ∷ 1 ∷ 0 ∷ 1 ∷ 0 ∷ 0 ∷ 0 ∷ 0 ∷ 0 ∷ []) ∷
          Copy 1 3 (0 ∷ 0 ∷ 0 ∷ 0 ∷ 0 ∷ 0 ∷ 0 ∷ 0 ∷ 0 ∷ 0 ∷ 0 ∷ 0 ∷ []) ∷
          Made (rd 1 27 0 1 (9 ∷ [])) 0 0 (0 ∷ []) ∷
          Made (wr 1 27 0 (7 ∷ [])) 0 1 [] ∷
          Made (rd 1 21 0 1 (9 ∷ [])) 6 0 (9 ∷ []) ∷
          Made (ck 1 31) 0 0 [] ∷
          Made (ck 1 27) 0 1 [] ∷
          Head 4 (40 ∷ 0 ∷ 5 ∷ 0 ∷ 0 ∷ 0 ∷ 0 ∷ 0 ∷ 0 ∷ 0 ∷ 0 ∷ 0 ∷ 1 ∷ 0 ∷ 0 ∷ 0 ∷ 27 ∷ 0 ∷ 0 ∷ 0 ∷ 0 ∷ 0 ∷ 0 ∷ 0 ∷ 0 ∷ 0 ∷ 1 ∷ 0 ∷ 0 ∷ 0 ∷ 0 ∷ 0 ∷ []) ∷
          Copy 1 4 (0 ∷ 1 ∷ 0 ∷ 0 ∷ 1 ∷ 0 ∷ 0 ∷ 0 ∷ 0 ∷ 0 ∷ 0 ∷ 0 ∷ []) ∷
          Made (ck 1 31) 0 2 [] ∷
          Head 3 (30 ∷ 0 ∷ 4 ∷ 0 ∷ 0 ∷ 0 ∷ 0 ∷ 0 ∷ 0 ∷ 0 ∷ 0 ∷ 0 ∷ 2 ∷ 0 ∷ 0 ∷ 0 ∷ 31 ∷ 0 ∷ 0 ∷ 0 ∷ 0 ∷ 0 ∷ 0 ∷ 0 ∷ 1 ∷ 0 ∷ 1 ∷ 0 ∷ 0 ∷ 0 ∷ 0 ∷ 0 ∷ []) ∷
          Copy 1 3 (1 ∷ 0 ∷ 0 ∷ 0 ∷ 0 ∷ 0 ∷ 0 ∷ 0 ∷ 1 ∷ 0 ∷ 0 ∷ 0 ∷ []) ∷
          [];
    }
    -- a tall table: either of two machines reads, both write; a check lays its list tall again, a list of five too
    ∷ record {
      capacity = 5;
      file_length = 1;
      names = 10 ∷ 0 ∷ 20 ∷ 0 ∷ [];
      choice = 1;
      files = 1;
      counties = 1 ∷ 1 ∷ [];
      steps =
          Head 2 (20 ∷ 0 ∷ 0 ∷ 0 ∷ 0 ∷ 0 ∷ 0 ∷ 0 ∷ 0 ∷ 0 ∷ 0 ∷ 0 ∷ 0 ∷ 0 ∷ 0 ∷ 0 ∷ 3 ∷ 0 ∷ 0 ∷ 0 ∷ 0 ∷ 0 ∷ 0 ∷ 0 ∷ 2 ∷ 0 ∷ 1 ∷ 0 ∷ 0 ∷ 0 ∷ 0 ∷ 0 ∷ []) ∷
          Copy 1 2 (0 ∷ 0 ∷ 0 ∷ 0 ∷ 0 ∷ 0 ∷ 0 ∷ 0 ∷ 0 ∷ 0 ∷ 0 ∷ 0 ∷ []) ∷
          Made (rd 1 1 0 1 (9 ∷ [])) 0 0 (0 ∷ []) ∷
          Made (wr 1 1 0 (7 ∷ [])) 6 0 [] ∷
          Made (wr 2 3 0 (7 ∷ [])) 0 1 [] ∷
          Made (rd 2 2 0 1 (9 ∷ [])) 0 1 (7 ∷ []) ∷
          Made (jn 30 1) 0 3 [] ∷
          Made (jn 40 1) 0 4 [] ∷
          Made (jn 50 1) 0 5 [] ∷
          Made (ck 3 31) 0 1 [] ∷
          Head 5 (50 ∷ 0 ∷ 0 ∷ 0 ∷ 0 ∷ 0 ∷ 0 ∷ 0 ∷ 0 ∷ 0 ∷ 0 ∷ 0 ∷ 1 ∷ 0 ∷ 0 ∷ 0 ∷ 31 ∷ 0 ∷ 0 ∷ 0 ∷ 0 ∷ 0 ∷ 0 ∷ 0 ∷ 2 ∷ 0 ∷ 1 ∷ 0 ∷ 0 ∷ 0 ∷ 0 ∷ 0 ∷ []) ∷
          Copy 1 5 (1 ∷ 0 ∷ 0 ∷ 0 ∷ 0 ∷ 0 ∷ 0 ∷ 0 ∷ 1 ∷ 0 ∷ 0 ∷ 0 ∷ []) ∷
          Made (rd 1 3 0 1 (9 ∷ [])) 0 1 (7 ∷ []) ∷
          Made (rd 1 5 0 1 (9 ∷ [])) 6 0 (9 ∷ []) ∷
          [];
    }
    -- two files: a write alters copies of its own file, counts its own writes; a check wants every file current, and marks each by its own version
    ∷ record {
      capacity = 4;
      file_length = 1;
      names = 10 ∷ 0 ∷ 20 ∷ 0 ∷ 30 ∷ 0 ∷ 40 ∷ 0 ∷ [];
      choice = 0;
      files = 2;
      counties = 1 ∷ 1 ∷ 1 ∷ 1 ∷ [];
      steps =
          Made (wrq 1 1 7 0 (7 ∷ []) (0 ∷ [])) 0 1 [] ∷
          Made (wrq 1 1 7 0 (8 ∷ []) (0 ∷ [])) 0 2 [] ∷
          Made (wrq 2 2 11 0 (9 ∷ []) (0 ∷ [])) 0 1 [] ∷
          Made (wrq 3 2 11 5 (9 ∷ []) (0 ∷ [])) 16 0 [] ∷
          Made (wrq 0 2 11 5 (9 ∷ []) (0 ∷ [])) 16 0 [] ∷
          Copy 1 3 (0 ∷ 1 ∷ 0 ∷ 0 ∷ 2 ∷ 0 ∷ 0 ∷ 0 ∷ 0 ∷ 0 ∷ 0 ∷ 0 ∷ 8 ∷ []) ∷
          Copy 2 3 (0 ∷ 0 ∷ 0 ∷ 0 ∷ 0 ∷ 0 ∷ 0 ∷ 0 ∷ 0 ∷ 0 ∷ 0 ∷ 0 ∷ 0 ∷ []) ∷
          Copy 1 4 (0 ∷ 0 ∷ 0 ∷ 0 ∷ 0 ∷ 0 ∷ 0 ∷ 0 ∷ 0 ∷ 0 ∷ 0 ∷ 0 ∷ 0 ∷ []) ∷
          Made (rdq 1 3 12 0 1 (0 ∷ []) (0 ∷ [])) 0 2 (8 ∷ []) ∷
          Made (rdq 2 3 12 0 1 (0 ∷ []) (0 ∷ [])) 0 1 (9 ∷ []) ∷
          Made (ck 2 14) 0 1 [] ∷
          Copy 1 4 (1 ∷ 0 ∷ 0 ∷ 0 ∷ 0 ∷ 0 ∷ 0 ∷ 0 ∷ 2 ∷ 0 ∷ 0 ∷ 0 ∷ 0 ∷ []) ∷
          Copy 2 3 (1 ∷ 0 ∷ 0 ∷ 0 ∷ 0 ∷ 0 ∷ 0 ∷ 0 ∷ 1 ∷ 0 ∷ 0 ∷ 0 ∷ 0 ∷ []) ∷
          Made (wrq 2 2 6 0 (5 ∷ []) (0 ∷ [])) 0 2 [] ∷
          Made (ck 3 12) 7 0 [] ∷
          Made (rdq 2 3 12 0 1 (0 ∷ []) (0 ∷ [])) 7 0 (0 ∷ []) ∷
          Made (rdq 1 3 12 0 1 (0 ∷ []) (0 ∷ [])) 0 2 (8 ∷ []) ∷
          [];
    }
    -- three machines of one county and one of another: the one is always wanted, and of the three as many as their own grid wants
    ∷ record {
      capacity = 4;
      file_length = 1;
      names = 10 ∷ 0 ∷ 20 ∷ 0 ∷ 30 ∷ 0 ∷ 40 ∷ 0 ∷ [];
      choice = 0;
      files = 1;
      counties = 1 ∷ 1 ∷ 1 ∷ 2 ∷ [];
      steps =
          Made (rd 1 7 0 1 (9 ∷ [])) 6 0 (9 ∷ []) ∷
          Made (rd 4 12 0 1 (9 ∷ [])) 6 0 (9 ∷ []) ∷
          Called (wr 1 11 0 (7 ∷ [])) 0 (4 ∷ []) ∷
          Copy 1 3 (0 ∷ 0 ∷ 0 ∷ 0 ∷ 0 ∷ 0 ∷ 0 ∷ 0 ∷ 0 ∷ 0 ∷ 0 ∷ 0 ∷ 0 ∷ []) ∷
          Made (rd 4 14 0 1 (9 ∷ [])) 0 1 (7 ∷ []) ∷
          Made (ck 1 11) 0 1 [] ∷
          Head 4 (40 ∷ 0 ∷ 0 ∷ 0 ∷ 0 ∷ 0 ∷ 0 ∷ 0 ∷ 0 ∷ 0 ∷ 0 ∷ 0 ∷ 1 ∷ 0 ∷ 0 ∷ 0 ∷ 11 ∷ 0 ∷ 0 ∷ 0 ∷ 0 ∷ 0 ∷ 0 ∷ 0 ∷ 3 ∷ 0 ∷ 2 ∷ 0 ∷ 0 ∷ 0 ∷ 0 ∷ 0 ∷ []) ∷
          [];
    }
    -- a machine of a second county joins: checked in, it can stop the table alone
    ∷ record {
      capacity = 3;
      file_length = 1;
      names = 10 ∷ 0 ∷ 20 ∷ 0 ∷ [];
      choice = 0;
      files = 1;
      counties = 3 ∷ 3 ∷ [];
      steps =
          Head 1 (10 ∷ 0 ∷ 2 ∷ 0 ∷ 0 ∷ 0 ∷ 0 ∷ 0 ∷ 0 ∷ 0 ∷ 0 ∷ 0 ∷ 0 ∷ 0 ∷ 0 ∷ 0 ∷ 3 ∷ 0 ∷ 0 ∷ 0 ∷ 0 ∷ 0 ∷ 0 ∷ 0 ∷ 0 ∷ 0 ∷ 3 ∷ 0 ∷ 0 ∷ 0 ∷ 0 ∷ 0 ∷ []) ∷
          Made (jn 30 1) 0 3 [] ∷
          Made (rd 1 3 0 1 (9 ∷ [])) 0 0 (0 ∷ []) ∷
          Made (ck 1 7) 0 1 [] ∷
          Head 1 (10 ∷ 0 ∷ 2 ∷ 0 ∷ 0 ∷ 0 ∷ 0 ∷ 0 ∷ 0 ∷ 0 ∷ 0 ∷ 0 ∷ 1 ∷ 0 ∷ 0 ∷ 0 ∷ 7 ∷ 0 ∷ 0 ∷ 0 ∷ 0 ∷ 0 ∷ 0 ∷ 0 ∷ 3 ∷ 0 ∷ 3 ∷ 0 ∷ 0 ∷ 0 ∷ 0 ∷ 0 ∷ []) ∷
          Made (rd 1 3 0 1 (9 ∷ [])) 6 0 (9 ∷ []) ∷
          Made (rd 1 7 0 1 (9 ∷ [])) 0 0 (0 ∷ []) ∷
          [];
    }
    -- two counties in a tall table: either reads, both write
    ∷ record {
      capacity = 2;
      file_length = 1;
      names = 10 ∷ 0 ∷ 20 ∷ 0 ∷ [];
      choice = 1;
      files = 1;
      counties = 2 ∷ 1 ∷ [];
      steps =
          Head 2 (20 ∷ 0 ∷ 0 ∷ 0 ∷ 0 ∷ 0 ∷ 0 ∷ 0 ∷ 0 ∷ 0 ∷ 0 ∷ 0 ∷ 0 ∷ 0 ∷ 0 ∷ 0 ∷ 3 ∷ 0 ∷ 0 ∷ 0 ∷ 0 ∷ 0 ∷ 0 ∷ 0 ∷ 2 ∷ 0 ∷ 1 ∷ 0 ∷ 0 ∷ 0 ∷ 0 ∷ 0 ∷ []) ∷
          Made (rd 2 2 0 1 (9 ∷ [])) 0 0 (0 ∷ []) ∷
          Made (wr 1 1 0 (7 ∷ [])) 6 0 [] ∷
          Made (wr 1 3 0 (7 ∷ [])) 0 1 [] ∷
          [];
    }
    ∷ []

-- sheets
unfoldable pub shared : List History
shared =
    -- fair use: club 2 spends the remainder and is turned down, club 1 has its assured write; 18 and 19 come after 6, a wrong sheet before all; a refused write
    -- counts nothing, a check of the list in force clears nothing, and a changing one all
    record {
      capacity = 3;
      file_length = 1;
      names = 1 ∷ 0 ∷ 2 ∷ 0 ∷ [];
      choice = 0;
      files = 1;
      counties = 1 ∷ 1 ∷ [];
      steps =
          Shares (wrs 1 1 3 0 (5 ∷ []) (0 ∷ []) (fair_use 0 0) 2) 0 (fair_use 0 1) ∷
          Shares (wrs 1 1 3 0 (5 ∷ []) (0 ∷ []) (fair_use 0 1) 2) 19 (fair_use 0 1) ∷
          Shares (wrs 1 1 3 0 (5 ∷ []) (0 ∷ []) (fair_use 0 1) 1) 0 (fair_use 1 1) ∷
          Shares (wrs 1 1 3 0 (5 ∷ []) (0 ∷ []) (fair_use 2 0) 1) 18 (fair_use 2 0) ∷
          Shares (wrs 1 1 1 0 (5 ∷ []) (0 ∷ []) (fair_use 2 0) 1) 6 (fair_use 2 0) ∷
          Called (wrs 1 1 3 0 (5 ∷ []) (9 ∷ []) (fair_use 1 1) 17) 18 (2 ∷ []) ∷
          Called (wrs 1 0 3 0 (5 ∷ []) (9 ∷ []) (0 ∷ []) 1) 1 (0 ∷ []) ∷
          Shares (cks 1 3 (0 ∷ [])) 1 (0 ∷ []) ∷
          Shares (cks 1 3 (fair_use 1 1)) 0 (fair_use 1 1) ∷
          Made (jn 3 1) 0 3 [] ∷
          Shares (cks 1 7 (fair_use 1 1)) 0 (fair_use 0 0) ∷
          [];
    }
    ∷ []
