mod Built
